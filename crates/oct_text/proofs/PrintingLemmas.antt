-- Numbers in a row.
use Rattle.std.proofs.Common.{◌≡◌, ℕ, ◌<◌, ◌≤◌, ◌-◌, List, [], ◌∷◌, ◌++◌, length, take, drop, get_or, sym, ap, ◌∙◌, arith}
use Rattle.std.specs.Prelude.{decimal}
use Rattle.std.specs.List.{flat_map}
use Rattle.std.proofs.lemmas.List.{append-nil, take_all}
use Rattle.oct_text.specs.Printing.{list_spelling}

-- a number behind a space
abbrev pub spaced : ℕ → List ℕ
spaced n = 32 ∷ decimal n

-- the first number, and each further one behind a space
pub list_spelling-cons : (x : ℕ) (xs : List ℕ) → list_spelling (x ∷ xs) ≡ decimal x ++ flat_map spaced xs
unfolding list_spelling
list_spelling-cons x [] = sym (append-nil (decimal x))
list_spelling-cons x (y ∷ ys) = ap (λ (l : List ℕ). decimal x ++ 32 ∷ l) (list_spelling-cons y ys)

pub list_spelling-none : (out ns : List ℕ) → length ns < 1 → out ≡ out ++ list_spelling ns
unfolding list_spelling
list_spelling-none out [] h = sym (append-nil out)
list_spelling-none out (n ∷ ns) h = absurd (omega arith)

-- all that come behind the first were written
pub list_spelling-all : (new old ns rest : List ℕ) (i : ℕ) → 1 ≤ length ns → rest ≡ take (length ns - 1) (drop 1 ns) → length rest ≤ i
    → new ≡ old ++ (decimal (get_or ns 0 0) ++ flat_map spaced (take i rest)) → new ≡ old ++ list_spelling ns
list_spelling-all new old [] rest i some e all h = absurd (omega arith)
list_spelling-all new old (n ∷ ns) rest i some e all h =
    let whole : rest ≡ ns = e ∙ take_all (length (n ∷ ns) - 1) ns (omega arith) in
    h ∙ ap (λ (l : List ℕ). old ++ (decimal n ++ flat_map spaced l)) (take_all i rest all ∙ whole) ∙ ap (λ (l : List ℕ). old ++ l) (sym (list_spelling-cons n ns))
