-- One pass over two ascending lists.
use Rattle.std.proofs.Common.{◌≡◌, ℕ, ◌+◌, ◌<◌, ◌≤◌, Bool, true, false, not, cond, inl, inr, ◌⊎◌, List, [], ◌∷◌, ◌++◌, length, take, refl, sym, ap, ◌∙◌, subst, arith}
use Rattle.std.specs.Prelude.{slice_index, IsTrue, ◌↔◌}
use Rattle.std.specs.List.Sorted.{IsStrictlyIncreasing}
use Rattle.std.proofs.lemmas.Bool.{cases_lt}
use Rattle.std.proofs.lemmas.Grind.{get_or_default_zero}
use Rattle.std.proofs.lemmas.List.Elements.{filter_more}
use Rattle.std.proofs.lemmas.List.Kept.{AllPairs-from_increasing}
use Rattle.box_watch.specs.Lists.{has, without}
use Rattle.box_watch.proofs.Members.{has-true, has-false}

-- all before the place are below x, and the one there, if any, isn't
pub record IsFirst (ys : List ℕ) (place x : ℕ) : Type 0 where
  pub within : place ≤ length ys
  pub below : (k : ℕ) → k < place → slice_index ys k < x
  pub found : place < length ys → x ≤ slice_index ys place

-- so the list has x exactly where it is there
pub has-first : (ys : List ℕ) (place x : ℕ) (b : Bool) → IsStrictlyIncreasing ys → IsFirst ys place x
    → (IsTrue b ↔ ((place < length ys) × (slice_index ys place ≡ x))) → has ys x ≡ b
has-first ys place x true asc first is =
    let there = is.0 refl in has-true ys x (place, there.0, get_or_default_zero ys place x there.0 ∙ there.1)
has-first ys place x false asc first is = has-false ys x (λ c. none c.0 c.1 (sym (get_or_default_zero ys c.0 x c.1) ∙ c.2))
  where
    above : (k : ℕ) → k < length ys → slice_index ys k ≡ x → place < k → ⊥
    above k lt e up =
        let far : slice_index ys place < slice_index ys k = AllPairs-from_increasing ys asc place k 0 up lt in
        let near = first.found (omega arith) in omega arith

    here : (k : ℕ) → k < length ys → slice_index ys k ≡ x → k ≡ place → ⊥
    here k lt e at = is-not (is.1 (omega arith, ap (slice_index ys) (sym at) ∙ e))
      where
        is-not : false ≡ true → ⊥
        is-not f = cc

    none : (k : ℕ) → k < length ys → slice_index ys k ≡ x → ⊥
    none k lt e = by (cases_lt k place)
      where
        by : (k < place) ⊎ (place ≤ k) → ⊥
        by (inl l) = let low = first.below k l in omega arith
        by (inr g) = by2 (cases_lt place k)
          where
            by2 : (place < k) ⊎ (k ≤ place) → ⊥
            by2 (inl up) = above k lt e up
            by2 (inr le) = here k lt e (omega arith)

-- what is known in front of number i: all passed ones are below it and below those behind it
abbrev pub IsPassed : List ℕ → List ℕ → ℕ → ℕ → Type 0
IsPassed xs ys i place = (k : ℕ) → k < place → (j : ℕ) → i ≤ j → j < length xs → slice_index ys k < slice_index xs j

pub first-here : (xs ys : List ℕ) (i p q x : ℕ) → i < length xs → slice_index xs i ≡ x → IsPassed xs ys i p → q ≤ length ys
    → ((k : ℕ) → p ≤ k → k < q → slice_index ys k < x) → (q < length ys → x ≤ slice_index ys q) → IsFirst ys q x
first-here xs ys i p q x lt is passed within below found = record { within = within; below = all; found = found }
  where
    all : (k : ℕ) → k < q → slice_index ys k < x
    all k l = by (cases_lt k p)
      where
        by : (k < p) ⊎ (p ≤ k) → slice_index ys k < x
        by (inl low) = let a = passed k low i (omega arith) lt in omega arith
        by (inr up) = below k up l

pub passed-next : (xs ys : List ℕ) (i q x : ℕ) → i < length xs → slice_index xs i ≡ x → IsStrictlyIncreasing xs → IsFirst ys q x → IsPassed xs ys (i + 1) q
passed-next xs ys i q x lt is asc first k l j le lj =
    let a = first.below k l in let b : slice_index xs i < slice_index xs j = AllPairs-from_increasing xs asc i j 0 (omega arith) lj in omega arith

kept-one : (x : ℕ) (h b : Bool) → h ≡ b → cond (not h) (x ∷ []) [] ≡ cond b [] (x ∷ [])
kept-one x h true e = ap (λ c. cond (not c) (x ∷ []) []) e
kept-one x h false e = ap (λ c. cond (not c) (x ∷ []) []) e

pub kept-next : (xs ys : List ℕ) (i x : ℕ) (b : Bool) (a c : List ℕ) → i < length xs → slice_index xs i ≡ x → has ys x ≡ b
    → a ≡ without (take i xs) ys → c ≡ a ++ cond b [] (x ∷ []) → c ≡ without (take (i + 1) xs) ys
kept-next xs ys i x b a c lt is e ea ec =
    let keep : ℕ → Bool = λ v. not (has ys v) in
    ec ∙ (ap (λ l. l ++ cond b [] (x ∷ [])) ea
    ∙ (ap (λ l. without (take i xs) ys ++ l) (sym (kept-one x (has ys x) b e))
    ∙ (ap (λ y. without (take i xs) ys ++ cond (keep y) (y ∷ []) []) (sym is) ∙ sym (filter_more keep xs i 0 lt))))

pub below-next : (xs : List ℕ) (from place x : ℕ) → ((k : ℕ) → from ≤ k → k < place → slice_index xs k < x) → slice_index xs place < x
    → (k : ℕ) → from ≤ k → k < place + 1 → slice_index xs k < x
below-next xs from place x below here k lo hi = by (cases_lt k place)
  where
    by : (k < place) ⊎ (place ≤ k) → slice_index xs k < x
    by (inl l) = below k lo l
    by (inr g) = let e : place ≡ k = omega arith in subst (λ n. slice_index xs n < x) e here
