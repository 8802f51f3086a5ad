-- The last number that passes a test.
use Rattle.std.proofs.Common.{◌≡◌, ℕ, zero, suc, ◌+◌, ◌<◌, Bool, true, false, cond, Option, Some, None, List, [], ◌∷◌, ◌++◌, map, refl, sym, ap, ◌∙◌, arith}
use Rattle.std.specs.Prelude.{IfSome}
use Rattle.mesh_base.specs.Place.{Area}
use Rattle.std.specs.List.{range_with_len}
use Rattle.std.proofs.lemmas.List.FromFn.{map-range_with_len_more}
use Rattle.box_watch.specs.declared.corners.Corners.{Corners}
use Rattle.box_watch.specs.Corners.{corners_of, same_corners}
use Rattle.box_watch.specs.Priors.{last_below, box_at, prior_of}

some-same : (k n : ℕ) → Some n ≡ Some k → n ≡ k
some-same k n e = cc

pub last-below : (p : ℕ → Bool) (n k : ℕ) → last_below p n ≡ Some k → k < n
last-below p zero k e = absurd cc
last-below p (suc n) k e = by (p n) (last-below p n k) e
  where
    by : (b : Bool) → (last_below p n ≡ Some k → k < n) → cond b (Some n) (last_below p n) ≡ Some k → k < suc n
    by true more h = let same = some-same k n h in omega arith
    by false more h = let lt = more h in omega arith

pub last-next : (p : ℕ → Bool) (n : ℕ) → last_below p (n + 1) ≡ cond (p n) (Some n) (last_below p n)
last-next p n = let e : n + 1 ≡ suc n = omega arith in ap (last_below p) e

if-some : (o : Option ℕ) (n : ℕ) → ((k : ℕ) → o ≡ Some k → k < n) → IfSome o (λ k. k < n)
if-some None n f = tt
if-some (Some k) n f = f k refl

-- the box before has a lesser number
pub prior-below : (boxes : List Area) (q n : ℕ) → q < n → IfSome (prior_of boxes q) (λ k. k < n)
prior-below boxes q n lt = if-some (prior_of boxes q) n (λ k e. let below = last-below _ q k e in omega arith)

-- which box is noted for each corners, when the first n were noted
abbrev pub IsNoted : List Area → ℕ → (Corners → Option ℕ) → Type 0
IsNoted boxes n noted = (k : Corners) → noted k ≡ last_below (λ i. same_corners (corners_of (box_at boxes i)) k) n

pub noted-next : (boxes : List Area) (n : ℕ) (key : Corners) (old new : Corners → Option ℕ) → key ≡ corners_of (box_at boxes n) → IsNoted boxes n old
    → ((k : Corners) → new k ≡ cond (same_corners key k) (Some n) (old k)) → IsNoted boxes (n + 1) new
noted-next boxes n key old new is noted step k =
    step k
    ∙ (ap (λ c. cond (same_corners c k) (Some n) (old k)) is
    ∙ (ap (λ o. cond (same_corners (corners_of (box_at boxes n)) k) (Some n) o) (noted k)
    ∙ sym (last-next (λ i. same_corners (corners_of (box_at boxes i)) k) n)))

pub priors-next : (boxes : List Area) (n : ℕ) (key : Corners) (old : Corners → Option ℕ) (prior : Option ℕ) (xs ys : List (Option ℕ)) → key ≡ corners_of (box_at boxes n) → IsNoted boxes n old
    → prior ≡ old key → xs ≡ map (prior_of boxes) (range_with_len 0 n) → ys ≡ xs ++ prior ∷ [] → ys ≡ map (prior_of boxes) (range_with_len 0 (n + 1))
priors-next boxes n key old prior xs ys is noted e ex ey =
    let here : prior ≡ prior_of boxes n = e ∙ (ap old is ∙ noted (corners_of (box_at boxes n))) in
    let z : 0 + n ≡ n = omega arith in
    ey ∙ (ap (λ l. l ++ prior ∷ []) ex ∙ (ap (λ o. map (prior_of boxes) (range_with_len 0 n) ++ o ∷ []) here ∙ sym (map-range_with_len_more (prior_of boxes) 0 n n z)))
