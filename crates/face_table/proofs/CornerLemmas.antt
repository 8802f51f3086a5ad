-- each face of a live cell is counted at one corner
use Rattle.std.proofs.Common.{◌≡◌, ◌≢◌, ℕ, ◌+◌, ◌≤◌, min, max, Bool, true, false, cond, ltb, not, ◌&&◌, List, [], ◌∷◌, sum_by, count_by, Option, Some, None, IfSome, refl, ap, ◌∙◌, arith}
use Rattle.std.proofs.lemmas.Bool.Decides.{nat_tests}
use Rattle.std.proofs.lemmas.List.Elements.{All-head, All-tail}
use Rattle.std.proofs.lemmas.List.Filters.{sum_by-filter_both}
use Rattle.std.proofs.lemmas.List.Sums.{sum_by-append}
use Rattle.mesh_base.specs.Mesh.{Face, Corners, AreDifferent, AreAllDifferent, face_of, middle, faces, face_eq, face_count}
use Rattle.mesh_base.proofs.FaceLaws.{face_count-append, face_count-push}
use Rattle.corner_ranges.specs.Ranges.{corners_of_cell, all_corners, range_of, corners_before}
use Rattle.face_table.specs.Tally.{Counts, tally_in}
use Rattle.face_table.specs.Corner.{least_share, corner_share}
use Rattle.face_table.proofs.Sums.{face_same}

-- three different numbers have one least
pub swapped : (a b c : ℕ) → face_of b a c ≡ face_of a b c
swapped a b c = λ i. (p i, q i, r i)
  where
    p : min b (min a c) ≡ min a (min b c)
    p = grind arith

    q : middle b a c ≡ middle a b c
    q = grind arith

    r : max b (max a c) ≡ max a (max b c)
    r = grind arith

pub ended : (a b c : ℕ) → face_of a c b ≡ face_of a b c
ended a b c = λ i. (p i, q i, r i)
  where
    p : min a (min c b) ≡ min a (min b c)
    p = grind arith

    q : middle a c b ≡ middle a b c
    q = grind arith

    r : max a (max c b) ≡ max a (max b c)
    r = grind arith

second : (a b c : ℕ) (f : Face) → face_eq (face_of b a c) f ≡ face_eq (face_of a b c) f
second a b c f = ap (λ g. face_eq g f) (swapped a b c)

third : (a b c : ℕ) (f : Face) → face_eq (face_of c a b) f ≡ face_eq (face_of a b c) f
third a b c f = ap (λ g. face_eq g f) (swapped a c b ∙ ended a b c)

turned : (a b : ℕ) → a ≢ b → ltb b a ≡ not (ltb a b)
turned a b n = grind (arith, nat_tests)

no_round : (a b c : ℕ) → ltb a b ≡ true → ltb a c ≡ false → ltb b c ≡ true → ⊥
no_round a b c p q r = grind (arith, nat_tests)

no_return : (a b c : ℕ) → ltb a b ≡ false → ltb a c ≡ true → ltb b c ≡ false → ⊥
no_return a b c p q r = grind (arith, nat_tests)

pick : (p q r e : Bool) → (p ≡ true → q ≡ false → r ≡ true → ⊥) → (p ≡ false → q ≡ true → r ≡ false → ⊥)
    → cond (p && (q && e)) 1 0 + cond (not p && (r && e)) 1 0 + cond (not q && (not r && e)) 1 0 ≡ cond e 1 0
pick true true true true x y = refl
pick true true true false x y = refl
pick true true false true x y = refl
pick true true false false x y = refl
pick true false true e x y = absurd (x refl refl refl)
pick true false false true x y = refl
pick true false false false x y = refl
pick false true true true x y = refl
pick false true true false x y = refl
pick false true false e x y = absurd (y refl refl refl)
pick false false true true x y = refl
pick false false true false x y = refl
pick false false false true x y = refl
pick false false false false x y = refl

once : (a b c : ℕ) (f : Face) → a ≢ b → a ≢ c → b ≢ c → least_share a b c f + least_share b a c f + least_share c a b f ≡ cond (face_eq (face_of a b c) f) 1 0
once a b c f x y z =
    let e = face_eq (face_of a b c) f in
    let s : least_share b a c f ≡ cond (not (ltb a b) && (ltb b c && e)) 1 0 =
    ap (λ t. cond (t && (ltb b c && face_eq (face_of b a c) f)) 1 0) (turned a b x)
    ∙ ap (λ t. cond (not (ltb a b) && (ltb b c && t)) 1 0) (second a b c f) in
    let t : least_share c a b f ≡ cond (not (ltb a c) && (not (ltb b c) && e)) 1 0 =
    ap (λ u. cond (u && (ltb c b && face_eq (face_of c a b) f)) 1 0) (turned a c y)
    ∙ ap (λ u. cond (not (ltb a c) && (u && face_eq (face_of c a b) f)) 1 0) (turned b c z)
    ∙ ap (λ u. cond (not (ltb a c) && (not (ltb b c) && u)) 1 0) (third a b c f) in
    let p = pick (ltb a b) (ltb a c) (ltb b c) e (no_round a b c) (no_return a b c) in
    omega (arith, s, t, p)

cell_once : (c : Corners) (f : Face) → AreDifferent c → corner_share f (c.0, c.1, c.2, c.3) + corner_share f (c.1, c.0, c.2, c.3) + corner_share f (c.2, c.0, c.1, c.3) + corner_share f (c.3, c.0, c.1, c.2) ≡ count_by (λ g. face_eq g f) (faces c)
cell_once c f d =
    let w = once c.0 c.1 c.2 f d.0 d.1 d.3 in
    let x = once c.0 c.1 c.3 f d.0 d.2 d.4 in
    let y = once c.0 c.2 c.3 f d.1 d.2 d.5 in
    let z = once c.1 c.2 c.3 f d.3 d.4 d.5 in
    let a : corner_share f (c.0, c.1, c.2, c.3) ≡ least_share c.0 c.1 c.2 f + least_share c.0 c.1 c.3 f + least_share c.0 c.2 c.3 f = refl in
    let b : corner_share f (c.1, c.0, c.2, c.3) ≡ least_share c.1 c.0 c.2 f + least_share c.1 c.0 c.3 f + least_share c.1 c.2 c.3 f = refl in
    let e : corner_share f (c.2, c.0, c.1, c.3) ≡ least_share c.2 c.0 c.1 f + least_share c.2 c.0 c.3 f + least_share c.2 c.1 c.3 f = refl in
    let g : corner_share f (c.3, c.0, c.1, c.2) ≡ least_share c.3 c.0 c.1 f + least_share c.3 c.0 c.2 f + least_share c.3 c.1 c.2 f = refl in
    let n : count_by (λ g. face_eq g f) (faces c) ≡ 0 + cond (face_eq (face_of c.1 c.2 c.3) f) 1 0 + cond (face_eq (face_of c.0 c.2 c.3) f) 1 0 + cond (face_eq (face_of c.0 c.1 c.3) f) 1 0 + cond (face_eq (face_of c.0 c.1 c.2) f) 1 0 = refl in
    omega (arith, w, x, y, z, a, b, e, g, n)

-- all corners together
pub faces_are : (f : Face) (cells : List (Option Corners)) → AreAllDifferent cells → sum_by (corner_share f) (all_corners cells) ≡ face_count cells f
faces_are f [] d = refl
faces_are f (None ∷ cells) d = faces_are f cells (All-tail (λ cell. IfSome cell AreDifferent) None cells d)
faces_are f (Some c ∷ cells) d =
    let rest = faces_are f cells (All-tail (λ cell. IfSome cell AreDifferent) (Some c) cells d) in
    let one = cell_once c f (All-head (λ cell. IfSome cell AreDifferent) (Some c) cells d) in
    let g = corner_share f in
    let split : sum_by g (all_corners (Some c ∷ cells)) ≡ sum_by g (corners_of_cell c) + sum_by g (all_corners cells) = sum_by-append g (corners_of_cell c) (all_corners cells) in
    let four : sum_by g (corners_of_cell c) ≡ 0 + g (c.0, c.1, c.2, c.3) + g (c.1, c.0, c.2, c.3) + g (c.2, c.0, c.1, c.3) + g (c.3, c.0, c.1, c.2) = refl in
    let push : face_count (Some c ∷ []) f ≡ 0 + count_by (λ h. face_eq h f) (faces c) = face_count-push [] c f in
    let both : face_count (Some c ∷ cells) f ≡ face_count (Some c ∷ []) f + face_count cells f = face_count-append (Some c ∷ []) cells f in
    omega (arith, rest, one, split, four, push, both)

-- the ranges before one have no more than all
pub before_le : (f : Face) (r : ℕ) (cells : List (Option Corners)) → AreAllDifferent cells → sum_by (corner_share f) (corners_before r cells) ≤ face_count cells f
before_le f r cells d =
    let p = λ (k : Corners). ltb (range_of k.0) r in
    omega (arith, sum_by-filter_both p (λ k. not (p k)) (λ k. refl) (corner_share f) (all_corners cells), faces_are f cells d)

-- the new count of every face, where one face is counted n times more
pub tally_more_by : (es : Counts) (k f : Face) (n : ℕ) → cond (face_eq k f) (tally_in es k + n) (tally_in es f) ≡ tally_in es f + cond (face_eq k f) n 0
tally_more_by es k f n = by (face_eq k f) refl
  where
    by : (b : Bool) → face_eq k f ≡ b → cond b (tally_in es k + n) (tally_in es f) ≡ tally_in es f + cond b n 0
    by true e = ap (λ h. tally_in es h + n) (face_same k f e)
    by false e = omega arith
