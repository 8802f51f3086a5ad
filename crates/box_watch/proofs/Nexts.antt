-- One more part of a list or a text.
use Rattle.std.proofs.Common.{◌≡◌, ℕ, ◌+◌, List, ◌++◌, sym, ap, ◌∙◌, append_assoc}
use Rattle.std.specs.Prelude.{flat_map, IfOk, Result, Ok, Err}
use Rattle.std.specs.List.{range_with_len}
use Rattle.report.proofs.Ranges.{flat_map_next}

-- what holds of an Ok value follows from another fact of it
pub on-ok : {A E : Type 0} (P Q : A → Type 0) → ((a : A) → P a → Q a) → (r : Result A E) → IfOk r P → IfOk r Q
on-ok P Q f (Ok a) p = f a p
on-ok P Q f (Err e) p = tt

pub part-next : {X : Type 0} (f : ℕ → List X) (n : ℕ) (a b c : List X) → a ≡ flat_map f (range_with_len 0 n) → b ≡ f n → c ≡ a ++ b → c ≡ flat_map f (range_with_len 0 (n + 1))
part-next f n a b c ea eb ec = ec ∙ (ap (λ l. l ++ b) ea ∙ (ap (λ l. flat_map f (range_with_len 0 n) ++ l) eb ∙ sym (flat_map_next f n)))

pub text-next : (f : ℕ → List ℕ) (n : ℕ) (a b c : List ℕ) → b ≡ a ++ flat_map f (range_with_len 0 n) → c ≡ b ++ f n → c ≡ a ++ flat_map f (range_with_len 0 (n + 1))
text-next f n a b c eb ec =
    ec ∙ (ap (λ l. l ++ f n) eb ∙ (append_assoc a (flat_map f (range_with_len 0 n)) (f n) ∙ ap (λ l. a ++ l) (sym (flat_map_next f n))))
