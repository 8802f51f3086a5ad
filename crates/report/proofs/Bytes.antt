-- The bytes of printed numbers and of the lines of a report.
use Rattle.std.proofs.Common.{◌≡◌, ℕ, zero, suc, ◌+◌, ◌<◌, Bool, true, false, cond, not, List, [], ◌∷◌, ◌++◌, refl, ap, ◌∙◌, arith}
use Rattle.std.specs.Prelude.{◌==◌, ◌&&◌, ◌/◌, ◌%◌, flat_map, All}
use Rattle.std.specs.List.{list_all}
use Rattle.std.specs.Fmt.{decimal, digits, digits_onto, digit_glyph}
use Rattle.std.proofs.lemmas.Bool.{lt-ltb, and_from, and_parts}
use Rattle.std.proofs.lemmas.Nat.{mod_below}
use Rattle.std.proofs.lemmas.List.Folds.{list_all-append}
use Rattle.std.proofs.lemmas.List.Elements.{All-cons}
use Rattle.oct_text.specs.Printing.{list_spelling}
use Rattle.oct_text.proofs.PrintingLemmas.{spaced, list_spelling-cons}

pub both-all : (p : ℕ → Bool) (xs ys : List ℕ) → list_all p xs ≡ true → list_all p ys ≡ true → list_all p (xs ++ ys) ≡ true
both-all p xs ys a b = list_all-append p xs ys ∙ and_from (list_all p xs) (list_all p ys) a b

-- each byte passes a test that each digit passes
glyph : (p : ℕ → Bool) → ((d : ℕ) → d < 10 → p (48 + d) ≡ true) → (d : ℕ) → d < 10 → p (digit_glyph false d) ≡ true
glyph p each d lt = ap (λ b. p (cond b (48 + d) (87 + d))) (lt-ltb d 10 lt) ∙ each d lt

onto : (p : ℕ → Bool) → ((d : ℕ) → d < 10 → p (48 + d) ≡ true) → (k n : ℕ) (acc : List ℕ) → list_all p acc ≡ true → list_all p (digits_onto k 10 false n acc) ≡ true
onto p each zero n acc h = h
onto p each (suc k) n acc h =
    let here : list_all p (digit_glyph false (n % 10) ∷ acc) ≡ true = and_from (p (digit_glyph false (n % 10))) (list_all p acc) (glyph p each (n % 10) (mod_below n 10 (omega arith))) h in
    by (n / 10 == 0) here (onto p each k (n / 10) (digit_glyph false (n % 10) ∷ acc) here)
  where
    by : (b : Bool) → list_all p (digit_glyph false (n % 10) ∷ acc) ≡ true → list_all p (digits_onto k 10 false (n / 10) (digit_glyph false (n % 10) ∷ acc)) ≡ true
        → list_all p (cond b (digit_glyph false (n % 10) ∷ acc) (digits_onto k 10 false (n / 10) (digit_glyph false (n % 10) ∷ acc))) ≡ true
    by true a b = a
    by false a b = b

pub decimal-all : (p : ℕ → Bool) → ((d : ℕ) → d < 10 → p (48 + d) ≡ true) → (n : ℕ) → list_all p (decimal n) ≡ true
unfolding digits
decimal-all p each n = onto p each 64 n [] refl

-- a list of numbers with spaces between them
spaced-all : (p : ℕ → Bool) → ((d : ℕ) → d < 10 → p (48 + d) ≡ true) → p 32 ≡ true → (ns : List ℕ) → list_all p (flat_map spaced ns) ≡ true
spaced-all p each space [] = refl
spaced-all p each space (n ∷ ns) =
    both-all p (spaced n) (flat_map spaced ns) (and_from (p 32) (list_all p (decimal n)) space (decimal-all p each n)) (spaced-all p each space ns)

pub spelling-all : (p : ℕ → Bool) → ((d : ℕ) → d < 10 → p (48 + d) ≡ true) → p 32 ≡ true → (n : ℕ) (ns : List ℕ) → list_all p (list_spelling (n ∷ ns)) ≡ true
spelling-all p each space n ns =
    ap (list_all p) (list_spelling-cons n ns) ∙ both-all p (decimal n) (flat_map spaced ns) (decimal-all p each n) (spaced-all p each space ns)

-- no byte passes the test
abbrev pub is_free : (ℕ → Bool) → ℕ → Bool
is_free p b = not (p b)

not_true : (b : Bool) → not b ≡ true → b ≡ false
not_true true e = absurd cc
not_true false e = refl

pub none-passes : (p : ℕ → Bool) (xs : List ℕ) → list_all (is_free p) xs ≡ true → All (λ x. p x ≡ false) xs
none-passes p [] h = λ k d lt. absurd (omega arith)
none-passes p (x ∷ xs) h =
    let parts = and_parts (not (p x)) (list_all (is_free p) xs) h in
    All-cons (λ y. p y ≡ false) x xs (not_true (p x) parts.0) (none-passes p xs parts.1)
