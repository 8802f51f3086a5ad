-- lemmas on the corners of ranges
use Rattle.std.proofs.Common.{◌≡◌, ℕ, ◌+◌, ◌*◌, ◌<◌, ◌≤◌, Bool, true, false, cond, eqb, ltb, List, [], ◌∷◌, ◌++◌, length, get_or, take, filter, flat_map, sum_by, Option, Some, None, IfSome, refl, ap, ◌∙◌, arith}
use Rattle.std.proofs.lemmas.Bool.Decides.{nat_tests}
use Rattle.std.proofs.lemmas.List.{take_more}
use Rattle.std.proofs.lemmas.List.Elements.{filter-append, All-head, All-tail}
use Rattle.std.proofs.lemmas.List.Sums.{sum_by-append, sum_by-cons}
use Rattle.std.proofs.lemmas.Grind.{flat_map-append}
use Rattle.std.proofs.Math.Nat.{div-add-mod}
use Rattle.mesh_base.specs.Mesh.{Corners, IsWithin, AreWithin, live}
use Rattle.mesh_base.proofs.CellLists.{live-append}
use Rattle.corner_ranges.specs.Ranges.{corners_of_cell, all_corners, range_of, corners_in, corners_before}

-- one cell more
all_corners-append : (xs ys : List (Option Corners)) → all_corners (xs ++ ys) ≡ all_corners xs ++ all_corners ys
all_corners-append xs ys = ap (flat_map corners_of_cell) (live-append xs ys) ∙ flat_map-append corners_of_cell (live xs) (live ys)

pub corners_in-more : (g : Corners → ℕ) (r : ℕ) (cells : List (Option Corners)) (i : ℕ) (cell : Option Corners) → i < length cells → get_or cells i cell ≡ cell
    → sum_by g (corners_in r (take (i + 1) cells)) ≡ sum_by g (corners_in r (take i cells)) + sum_by g (corners_in r (cell ∷ []))
corners_in-more g r cells i cell lt e =
    let p = λ (k : Corners). eqb (range_of k.0) r in
    ap (λ l. sum_by g (corners_in r l)) (take_more cells i cell lt ∙ ap (λ k. take i cells ++ k ∷ []) e)
    ∙ ap (λ l. sum_by g (filter p l)) (all_corners-append (take i cells) (cell ∷ []))
    ∙ ap (sum_by g) (filter-append p (all_corners (take i cells)) (all_corners (cell ∷ [])))
    ∙ sum_by-append g (corners_in r (take i cells)) (corners_in r (cell ∷ []))

-- the corners of a list, one by one
one_more : (g : Corners → ℕ) (p : Corners → Bool) (k : Corners) (ks : List Corners) → sum_by g (filter p (k ∷ ks)) ≡ sum_by g (filter p (k ∷ [])) + sum_by g (filter p ks)
one_more g p k ks = ap (sum_by g) (filter-append p (k ∷ []) ks) ∙ sum_by-append g (filter p (k ∷ [])) (filter p ks)

abbrev in_range : ℕ → Corners → Bool
in_range r k = eqb (range_of k.0) r

-- before the first range there are none
none_before : (ks : List Corners) → filter (λ k. ltb (range_of k.0) 0) ks ≡ []
none_before [] = refl
none_before (k ∷ ks) = let e : ltb (range_of k.0) 0 ≡ false = grind (arith, nat_tests) in ap (λ b. cond b (k ∷ filter (λ k. ltb (range_of k.0) 0) ks) (filter (λ k. ltb (range_of k.0) 0) ks)) e ∙ none_before ks

pub corners_before-0 : (cells : List (Option Corners)) → corners_before 0 cells ≡ []
corners_before-0 cells = none_before (all_corners cells)

-- a range adds its own
one_is : (g : Corners → ℕ) (p : Corners → Bool) (k : Corners) → sum_by g (filter p (k ∷ [])) ≡ cond (p k) (g k) 0
one_is g p k = by (p k)
  where
    by : (b : Bool) → sum_by g (cond b (k ∷ []) []) ≡ cond b (g k) 0
    by true = omega (arith, sum_by-cons g k [])
    by false = refl

shares : (m r n : ℕ) → cond (ltb m (r + 1)) n 0 ≡ cond (ltb m r) n 0 + cond (eqb m r) n 0
shares m r n = grind (arith, nat_tests)

split : (g : Corners → ℕ) (r : ℕ) (ks : List Corners)
    → sum_by g (filter (λ k. ltb (range_of k.0) (r + 1)) ks) ≡ sum_by g (filter (λ k. ltb (range_of k.0) r) ks) + sum_by g (filter (in_range r) ks)
split g r [] = refl
split g r (k ∷ ks) =
    let p = λ (k : Corners). ltb (range_of k.0) (r + 1) in
    let q = λ (k : Corners). ltb (range_of k.0) r in
    let s = in_range r in
    omega (arith, one_more g p k ks, one_more g q k ks, one_more g s k ks, one_is g p k, one_is g q k, one_is g s k, shares (range_of k.0) r (g k), split g r ks)

pub corners_before-next : (g : Corners → ℕ) (r : ℕ) (cells : List (Option Corners))
    → sum_by g (corners_before (r + 1) cells) ≡ sum_by g (corners_before r cells) + sum_by g (corners_in r cells)
corners_before-next g r cells = split g r (all_corners cells)

-- after the ranges of all points none is missing
below : (n r v : ℕ) → v < n → n ≤ r * 32768 → ltb (range_of v) r ≡ true
below n r v lt le = grind (arith, nat_tests, div-add-mod v 32768)

kept : (p : Corners → Bool) (k : Corners) (ks ls : List Corners) → p k ≡ true → filter p ks ≡ ls → filter p (k ∷ ks) ≡ k ∷ ls
kept p k ks ls e f = ap (λ b. cond b (k ∷ filter p ks) (filter p ks)) e ∙ ap (λ l. k ∷ l) f

pub corners_before-all : (n r : ℕ) (cells : List (Option Corners)) → AreWithin n cells → n ≤ r * 32768 → corners_before r cells ≡ all_corners cells
corners_before-all n r [] a le = refl
corners_before-all n r (None ∷ cells) a le = corners_before-all n r cells (All-tail (λ cell. IfSome cell (IsWithin n)) None cells a) le
corners_before-all n r (Some c ∷ cells) a le =
    let p = λ (k : Corners). ltb (range_of k.0) r in
    let w = All-head (λ cell. IfSome cell (IsWithin n)) (Some c) cells a in
    let rest = corners_before-all n r cells (All-tail (λ cell. IfSome cell (IsWithin n)) (Some c) cells a) le in
    let second : List Corners = (c.1, c.0, c.2, c.3) ∷ (c.2, c.0, c.1, c.3) ∷ (c.3, c.0, c.1, c.2) ∷ all_corners cells in
    let third : List Corners = (c.2, c.0, c.1, c.3) ∷ (c.3, c.0, c.1, c.2) ∷ all_corners cells in
    let fourth : List Corners = (c.3, c.0, c.1, c.2) ∷ all_corners cells in
    kept p (c.0, c.1, c.2, c.3) second second (below n r c.0 w.0 le) (kept p (c.1, c.0, c.2, c.3) third third (below n r c.1 w.1 le)
    (kept p (c.2, c.0, c.1, c.3) fourth fourth (below n r c.2 w.2 le) (kept p (c.3, c.0, c.1, c.2) (all_corners cells) (all_corners cells) (below n r c.3 w.3 le) rest)))
