-- faces in ascending order, before those of a map
use Rattle.std.proofs.Common.{◌≡◌, ◌⊎◌, ℕ, zero, suc, ◌+◌, ◌<◌, ◌≤◌, inl, inr, Bool, true, false, cond, [], ◌∷◌, ◌++◌, length, get_or, set, unwrap_or, Option, Some, None, refl, sym, ap, ◌∙◌, arith}
use Rattle.std.specs.Map.{lookup}
use Rattle.std.proofs.lemmas.Bool.{cases_lt}
use Rattle.indexmap.specs.IndexMap.{insert_entry}
use Rattle.mesh_base.specs.Mesh.{Face, face_eq}
use Rattle.face_table.specs.Tally.{Counts, tally_in}
use Rattle.face_table.specs.Known.{rank_of, IsAscending, AreApart, IsBetween, IsFirstAt}
use Rattle.face_table.proofs.Sums.{face_same, face_eq-refl}

-- faces of different ranks are not the same
pub apart_below : (f g : Face) → rank_of f < rank_of g → face_eq f g ≡ false
apart_below f g l = by (face_eq f g) refl
  where
    by : (b : Bool) → face_eq f g ≡ b → b ≡ false
    by true e = let r = ap rank_of (face_same f g e) in absurd (omega arith)
    by false e = refl

pub apart_above : (f g : Face) → rank_of g < rank_of f → face_eq f g ≡ false
apart_above f g l = by (face_eq f g) refl
  where
    by : (b : Bool) → face_eq f g ≡ b → b ≡ false
    by true e = let r = ap rank_of (face_same f g e) in absurd (omega arith)
    by false e = refl

-- a look-up in one list and then another
pub lookup-known : (es fs : Counts) (f : Face) (n : ℕ) → lookup (face_eq f) es ≡ Some n → lookup (face_eq f) (es ++ fs) ≡ Some n
lookup-known [] fs f n h = absurd (cc)
lookup-known (e ∷ es) fs f n h = by (face_eq f e.0) h (lookup-known es fs f n)
  where
    by : (b : Bool) → cond b (Some e.1) (lookup (face_eq f) es) ≡ Some n → (lookup (face_eq f) es ≡ Some n → lookup (face_eq f) (es ++ fs) ≡ Some n) → cond b (Some e.1) (lookup (face_eq f) (es ++ fs)) ≡ Some n
    by true h rest = h
    by false h rest = rest h

pub lookup-past : (es fs : Counts) (f : Face) → lookup (face_eq f) es ≡ None → lookup (face_eq f) (es ++ fs) ≡ lookup (face_eq f) fs
lookup-past [] fs f h = refl
lookup-past (e ∷ es) fs f h = by (face_eq f e.0) h (lookup-past es fs f)
  where
    by : (b : Bool) → cond b (Some e.1) (lookup (face_eq f) es) ≡ None → (lookup (face_eq f) es ≡ None → lookup (face_eq f) (es ++ fs) ≡ lookup (face_eq f) fs) → cond b (Some e.1) (lookup (face_eq f) (es ++ fs)) ≡ lookup (face_eq f) fs
    by true h rest = absurd (cc)
    by false h rest = rest h

pub none_tally : (es : Counts) (f : Face) → lookup (face_eq f) es ≡ None → tally_in es f ≡ 0
none_tally es f h = ap (λ o. unwrap_or o 0) h

-- a count in both lists
pub both_tally : (es fs : Counts) (f : Face) → AreApart es fs → tally_in (es ++ fs) f ≡ tally_in es f + tally_in fs f
both_tally es fs f a = by (lookup (face_eq f) es) refl (a f)
  where
    by : (o : Option ℕ) → lookup (face_eq f) es ≡ o → (lookup (face_eq f) es ≡ None) ⊎ (lookup (face_eq f) fs ≡ None) → tally_in (es ++ fs) f ≡ tally_in es f + tally_in fs f
    by None e h = let p = ap (λ o. unwrap_or o 0) (lookup-past es fs f e) in omega (arith, p, none_tally es f e)
    by (Some n) e (inl h) = absurd (cc)
    by (Some n) e (inr h) =
        let p = ap (λ o. unwrap_or o 0) (lookup-known es fs f n e) in
        let q = ap (λ o. unwrap_or o 0) e in
        omega (arith, p, q, none_tally fs f h)

-- what a place of an ascending list tells of a look-up
pub lookup-none : (es : Counts) (f : Face) → ((k : ℕ) (d : Face × ℕ) → k < length es → face_eq f (get_or es k d).0 ≡ false) → lookup (face_eq f) es ≡ None
lookup-none [] f h = refl
lookup-none (e ∷ es) f h = ap (λ b. cond b (Some e.1) (lookup (face_eq f) es)) (h zero e (omega arith)) ∙ lookup-none es f (λ k d lt. h (suc k) d (omega arith))

pub lookup-first : (es : Counts) (f : Face) (i : ℕ) (d : Face × ℕ) → i < length es → ((k : ℕ) (d : Face × ℕ) → k < i → face_eq f (get_or es k d).0 ≡ false) → face_eq f (get_or es i d).0 ≡ true
    → lookup (face_eq f) es ≡ Some (get_or es i d).1
lookup-first [] f i d lt h e = absurd (omega arith)
lookup-first (p ∷ es) f zero d lt h e = ap (λ b. cond b (Some p.1) (lookup (face_eq f) es)) e
lookup-first (p ∷ es) f (suc i) d lt h e = ap (λ b. cond b (Some p.1) (lookup (face_eq f) es)) (h zero p (omega arith)) ∙ lookup-first es f i d (omega arith) (λ k d lt. h (suc k) d (omega arith)) e

pub set-first : (es : Counts) (f : Face) (i x : ℕ) (d : Face × ℕ) → i < length es → ((k : ℕ) (d : Face × ℕ) → k < i → face_eq f (get_or es k d).0 ≡ false) → face_eq f (get_or es i d).0 ≡ true
    → set es i (f, x) ≡ insert_entry face_eq es f x
set-first [] f i x d lt h e = absurd (omega arith)
set-first (p ∷ es) f zero x d lt h e = ap (λ g. (g, x) ∷ es) (face_same f p.0 e) ∙ sym (ap (λ b. cond b ((p.0, x) ∷ es) (p ∷ insert_entry face_eq es f x)) e)
set-first (p ∷ es) f (suc i) x d lt h e =
    ap (λ l. p ∷ l) (set-first es f i x d (omega arith) (λ k d lt. h (suc k) d (omega arith)) e)
    ∙ sym (ap (λ b. cond b ((p.0, x) ∷ es) (p ∷ insert_entry face_eq es f x)) (h zero p (omega arith)))

-- what is found of a face
pub found_value : (es : Counts) (f : Face) (i : ℕ) (d : Face × ℕ) → IsFirstAt es f i → lookup (face_eq f) es ≡ Some (get_or es i d).1
found_value es f i d h = lookup-first es f i d h.within h.others (h.here d)

pub found_set : (es : Counts) (f : Face) (i x : ℕ) → IsFirstAt es f i → set es i (f, x) ≡ insert_entry face_eq es f x
found_set es f i x h = set-first es f i x (f, 0) h.within h.others (h.here (f, 0))

-- a face at a place of an ascending list, and one that no place is left for
pub found_here : (es : Counts) (f : Face) (i : ℕ) → IsAscending es → i < length es → ((d : Face × ℕ) → (get_or es i d).0 ≡ f) → IsFirstAt es f i
found_here es f i a lt e = record {
  within = lt;
  here = λ d. ap (face_eq f) (e d) ∙ face_eq-refl f;
  others = λ k d l. apart_above f (get_or es k d).0 (let p = a k i d d l lt in let q = ap rank_of (e d) in omega arith);
}

pub found_nowhere : (es : Counts) (f : Face) (i j : ℕ) → j ≤ i → IsBetween es i j f → lookup (face_eq f) es ≡ None
found_nowhere es f i j le b = lookup-none es f (λ k d lt. elim (cases_lt k i) [
  | inl l ↦ apart_above f (get_or es k d).0 (b.before k d l)
  | inr g ↦ apart_below f (get_or es k d).0 (b.after k d (omega arith) lt)
])
