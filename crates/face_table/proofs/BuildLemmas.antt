-- lemmas on the table of a list of cells
use Rattle.std.proofs.Common.{◌≡◌, ℕ, ◌*◌, ◌<◌, ◌≤◌, true, ltb, List, [], ◌∷◌, length, get_or, flat_map, filter, inl, inr, Option, Some, None, Vec, vec_capacity, sym, subst, arith, length-append}
use Rattle.std.specs.declared.alloc.Global.{Global}
use Rattle.std.specs.List.{range_with_len}
use Rattle.std.proofs.lemmas.Bool.Decides.{nat_tests}
use Rattle.std.proofs.lemmas.Bool.{cases_lt}
use Rattle.std.proofs.lemmas.List.{get_or_past}
use Rattle.std.proofs.lemmas.List.Sums.{count_by-le-length}
use Rattle.mesh_base.specs.Mesh.{Face, Corners, AreWithin, is_on, live, faces, face_eq, face_count}
use Rattle.mesh_base.specs.Numbers.{IsListOf}
use Rattle.mesh_base.proofs.FaceLaws.{face_vertex}
use Rattle.mesh_base.proofs.Ascending.{IsListOf-filter_range}
use Rattle.mesh_base.proofs.Within.{vertex_within}
use Rattle.face_table.specs.Tally.{IsBelow, Matches}

-- a cell has four faces
length-faces : (cells : List (Option Corners)) → length (flat_map faces (live cells)) ≤ 4 * length cells
length-faces [] = omega arith
length-faces (None ∷ cells) = omega (arith, length-faces cells)
length-faces (Some c ∷ cells) = omega (arith, length-faces cells, length-append (faces c) (flat_map faces (live cells)))

pub face_count-le : (cells : List (Option Corners)) (f : Face) → face_count cells f ≤ 4 * length cells
face_count-le cells f = omega (arith, length-faces cells, count_by-le-length (λ g. face_eq g f) (flat_map faces (live cells)))

-- the filter of the numbers that have a single face
pub listed_below : (singles : List ℕ) (surface : Vec ℕ Global) → surface.items ≡ filter (λ w. ltb 0 (get_or singles w 0)) (range_with_len 0 (length singles)) → length singles ≤ vec_capacity surface → IsBelow (length singles) surface
listed_below singles surface e room =
    let l = IsListOf-filter_range (λ w. ltb 0 (get_or singles w 0)) (length singles) in
    let m = subst (IsListOf (λ w. (w < length singles) × (ltb 0 (get_or singles w 0) ≡ true))) (sym e) l in
    record { ascending = m.ascending; below = λ w h. (m.only w h).0; room = room }

pub listed_all : (singles : List ℕ) (items : List ℕ) → items ≡ filter (λ w. ltb 0 (get_or singles w 0)) (range_with_len 0 (length singles)) → (w : ℕ) → Matches singles items w
listed_all singles items e w =
    let l = IsListOf-filter_range (λ w. ltb 0 (get_or singles w 0)) (length singles) in
    let m = subst (IsListOf (λ w. (w < length singles) × (ltb 0 (get_or singles w 0) ≡ true))) (sym e) l in (
      λ h. let t = (m.only w h).1 in grind (arith, nat_tests),
      λ p. m.every w (within p, grind (arith, nat_tests)),
    )
  where
    within : 0 < get_or singles w 0 → w < length singles
    within p = elim (cases_lt w (length singles)) [ inl l ↦ l | inr g ↦ (let z = get_or_past singles w 0 g in absurd (omega arith)) ]

pub face_within : (n : ℕ) (cells : List (Option Corners)) (f : Face) (v : ℕ) → AreWithin n cells → 0 < face_count cells f → is_on f v ≡ true → v < n
face_within n cells f v a lt on = vertex_within n cells v a (face_vertex cells f v on lt)

pub last_on : (f : Face) → is_on f f.2 ≡ true
last_on f = grind (arith, nat_tests)
