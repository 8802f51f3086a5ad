-- Parts of a text that are written one after the other.
use Rattle.std.proofs.Common.{◌≡◌, ℕ, ◌+◌, List, ◌++◌, sym, ap, ◌∙◌, append_assoc}
use Rattle.std.specs.Prelude.{flat_map}
use Rattle.std.specs.List.{range_with_len}
use Rattle.report.proofs.Ranges.{flat_map_next}

-- one more part was written
pub parts_more : (part : ℕ → List ℕ) (n : ℕ) (a b c : List ℕ) → b ≡ a ++ flat_map part (range_with_len 0 n) → c ≡ b ++ part n → c ≡ a ++ flat_map part (range_with_len 0 (n + 1))
parts_more part n a b c eb ec =
    ec ∙ (ap (λ l. l ++ part n) eb
    ∙ (append_assoc a (flat_map part (range_with_len 0 n)) (part n) ∙ ap (λ l. a ++ l) (sym (flat_map_next part n))))
