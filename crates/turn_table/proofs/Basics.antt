-- Lists, options and stages.
use Rattle.std.proofs.Common.{◌≡◌, ℕ, zero, suc, ◌<◌, eqb, cond, true, ◌≢◌, ◌⊎◌, List, [], ◌∷◌, ◌++◌, length, map, drop, get_or, sym, refl, ap, inl, inr, ⊎_elim, arith, Option, Some, None, eq-eqb, ne_eqb}
use Rattle.std.specs.Prelude.{is_some}
use mathlib.Core.Option.{some, some-injective, some-ne-none}
use lib.ListN.{get_elem?}
use Rattle.std.proofs.lemmas.Bool.{true≢false}
use Rattle.turn_table.specs.declared.view.Stage.{Stage}
use Rattle.turn_table.specs.declared.view.Stage.TheVariants.{Idle, Waiting, Served}
use Rattle.turn_table.specs.Views.{first_of_pair, noted, ticket_of, is_served}

-- f with the value x at k
abbrev pub assign : (ℕ → ℕ) → ℕ → ℕ → ℕ → ℕ
assign f k x n = cond (eqb n k) x (f n)

pub assign_here : (f : ℕ → ℕ) (k x n : ℕ) → n ≡ k → assign f k x n ≡ x
assign_here f k x n e = ap (λ b. cond b x (f n)) (eq-eqb n k e)

pub assign_else : (f : ℕ → ℕ) (k x n : ℕ) → n ≢ k → assign f k x n ≡ f n
assign_else f k x n ne = ap (λ b. cond b x (f n)) (ne_eqb n k ne)

pub nil≢cons : {A : Type 0} {x : A} {xs : List A} → [] ≡ x ∷ xs → ⊥
nil≢cons e = cc

pub some_of : {A : Type 0} (o : Option A) → is_some o ≡ true → (a : A) × (o ≡ Some a)
some_of None e = absurd (true≢false (sym e))
some_of (Some a) e = (a, refl)

pub one_held : {A : Type 0} (l : List (ℕ × A)) → map first_of_pair l ≡ 0 ∷ [] → (x : A) × (l ≡ (0, x) ∷ [])
one_held [] e = absurd (nil≢cons e)
one_held (p ∷ []) e = (p.1, ap (λ (k : ℕ). (k, p.1) ∷ []) (ap (λ l. get_or l 0 0) e))
one_held (p ∷ q ∷ l) e = absurd (nil≢cons (sym (ap (drop 1) e)))

pub none_held : {A : Type 0} (l : List (ℕ × A)) → map first_of_pair l ≡ [] → l ≡ []
none_held [] e = refl
none_held (p ∷ l) e = absurd (nil≢cons (sym e))

pub served_of : {E : Type 0} (st : Stage E) → is_served st ≡ true → st ≡ Served (ticket_of st) (noted st)
served_of Idle e = absurd (true≢false (sym e))
served_of (Waiting t) e = absurd (true≢false (sym e))
served_of (Served t history) e = refl

pub empty_of : {A : Type 0} (l : List A) → length l ≡ 0 → l ≡ []
empty_of [] e = refl
empty_of (x ∷ xs) e = absurd (omega arith)

pub none≢some : {A : Type 0} (a : A) → None ≡ Some a → ⊥
none≢some a e = cc

pub at_below : {A : Type 0} (l : List A) (i : ℕ) (a : A) → get_elem? l i ≡ some a → i < length l
at_below [] i a e = absurd (some-ne-none a (sym e))
at_below (x ∷ xs) zero a e = omega arith
at_below (x ∷ xs) (suc i) a e = let n = at_below xs i a e in omega arith

-- the last element of a longer list stands at its length
pub at_snoc : {A : Type 0} (l : List A) (a b : A) (j : ℕ) → get_elem? (l ++ a ∷ []) j ≡ some b → (get_elem? l j ≡ some b) ⊎ ((j ≡ length l) × (a ≡ b))
at_snoc [] a b zero e = inr (refl, some-injective a b e)
at_snoc [] a b (suc j) e = absurd (some-ne-none b (sym e))
at_snoc (x ∷ xs) a b zero e = inl e
at_snoc (x ∷ xs) a b (suc j) e = ⊎_elim inl (λ p. let n = p.0 in inr (omega arith, p.1)) (at_snoc xs a b j e)
