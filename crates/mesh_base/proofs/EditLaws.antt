-- edits keep a mesh valid, and motions keep coordinates in range
use Rattle.std.proofs.Common.{◌≡◌, ◌≢◌, ℕ, zero, suc, ◌+◌, ◌<◌, ◌≤◌, ℤ, List, [], ◌∷◌, ◌++◌, length, get_or, set, Option, Some, None, All, IfSome, IsSome, refl, sym, subst, arith, length-append}
use Rattle.std.specs.List.{AllByRecursion}
use Rattle.std.specs.Option.{option_map_or}
use Rattle.std.proofs.lemmas.Int.{ints, clamps}
use Rattle.std.proofs.lemmas.List.{length-set}
use Rattle.std.proofs.lemmas.List.Elements.{All-append, All-set, All-push, All-weaker, All-map, All-from_recursion, recursion_from_All}
use Rattle.mesh_base.specs.Place.{Place, IsPlace, IsCoordinate}
use Rattle.mesh_base.specs.Mesh.{MeshView, Corners, IsMesh, IsWithin, AreWithin, AreDifferent, AreAllDifferent, corners_of, numbers}
use Rattle.mesh_base.specs.Edit.{cell_at, quarters, split_cells, edited, AddsInRange, EditFits}
use Rattle.mesh_base.specs.Kernel.{held, held_place, place_by, moved}
use Rattle.mesh_base.specs.declared.edit.Edit.{Edit}
use Rattle.mesh_base.specs.declared.edit.Edit.TheVariants.{Point, Add, Remove, Split}
use Rattle.mesh_base.specs.declared.edit.Kernel.{Kernel}

-- the cells stay within more points
AreWithin-more : (m n : ℕ) (cells : List (Option Corners)) → m ≤ n → AreWithin m cells → AreWithin n cells
AreWithin-more m n cells le a = All-weaker (λ cell. IfSome cell (IsWithin m)) (λ cell. IfSome cell (IsWithin n)) more cells a
  where
    more : (cell : Option Corners) → IfSome cell (IsWithin m) → IfSome cell (IsWithin n)
    more None h = tt
    more (Some c) h = (omega arith, omega arith, omega arith, omega arith)

-- what holds of each live cell holds of the one at i
cell_fact : (P : Corners → Type 0) (cells : List (Option Corners)) (i : ℕ) (c : Corners) → cell_at cells i ≡ Some c → All (λ cell. IfSome cell P) cells → P c
cell_fact P cells i c e a = by cells i (recursion_from_All (λ cell. IfSome cell P) cells a) e
  where
    by : (cells : List (Option Corners)) (i : ℕ) → AllByRecursion (λ cell. IfSome cell P) cells → cell_at cells i ≡ Some c → P c
    by [] i a e = absurd (cc)
    by (None ∷ cells) zero a e = absurd (cc)
    by (Some d ∷ cells) zero a e = let s : d ≡ c = cc in subst P s a.0
    by (x ∷ cells) (suc i) a e = by cells i a.1 e

IsWithin-quarters : (n : ℕ) (c : Corners) → IsWithin n c → AreWithin (n + 1) (quarters n c)
IsWithin-quarters n c w = All-from_recursion (λ cell. IfSome cell (IsWithin (n + 1))) (quarters n c) (
  (omega arith, omega arith, omega arith, omega arith),
  (
    (omega arith, omega arith, omega arith, omega arith),
    (
      (omega arith, omega arith, omega arith, omega arith),
      ((omega arith, omega arith, omega arith, omega arith), tt),
    ),
  ),
)

apart : (m n : ℕ) → m < n → m ≢ n
apart m n l e = omega arith

AreDifferent-quarters : (n : ℕ) (c : Corners) → IsWithin n c → AreDifferent c → AreAllDifferent (quarters n c)
AreDifferent-quarters n c w d =
    let n0 = apart c.0 n w.0 in
    let n1 = apart c.1 n w.1 in
    let n2 = apart c.2 n w.2 in
    let n3 = apart c.3 n w.3 in
    All-from_recursion (λ cell. IfSome cell AreDifferent) (quarters n c) (
      (λ e. n1 (sym e), λ e. n2 (sym e), λ e. n3 (sym e), d.3, d.4, d.5),
      (
        (n0, d.1, d.2, λ e. n2 (sym e), λ e. n3 (sym e), d.5),
        (
          (d.0, n0, d.2, n1, d.4, λ e. n3 (sym e)),
          ((d.0, d.1, n0, d.3, n1, n2), tt),
        ),
      ),
    )

-- an absent cell at i
IsMesh-removed : (points : List Place) (cells : List (Option Corners)) (i : ℕ) → IsMesh points cells → IsMesh points (set cells i None)
IsMesh-removed points cells i valid = record {
  few_points = valid.few_points;
  few_cells = omega (arith, length-set cells i None, valid.few_cells);
  within = All-set (λ cell. IfSome cell (IsWithin (length points))) cells i None tt valid.within;
  different = All-set (λ cell. IfSome cell AreDifferent) cells i None tt valid.different;
}

IsMesh-point : (points : List Place) (cells : List (Option Corners)) (p : Place) → IsMesh points cells → length points < 1000000 → IsMesh (points ++ p ∷ []) cells
IsMesh-point points cells p valid lt =
    let n = length-append points (p ∷ []) in
    record {
      few_points = omega arith;
      few_cells = valid.few_cells;
      within = AreWithin-more (length points) (length (points ++ p ∷ [])) cells (omega arith) valid.within;
      different = valid.different;
    }

IsMesh-cells : (points : List Place) (cells more : List (Option Corners)) → IsMesh points cells → length cells + length more ≤ 4000000 → AreWithin (length points) more → AreAllDifferent more → IsMesh points (cells ++ more)
IsMesh-cells points cells more valid le w d = record {
  few_points = valid.few_points;
  few_cells = omega (arith, length-append cells more);
  within = All-append (λ cell. IfSome cell (IsWithin (length points))) cells more valid.within w;
  different = All-append (λ cell. IfSome cell AreDifferent) cells more valid.different d;
}

pub keeps : (mesh : MeshView) (edit : Edit) → IsMesh mesh.points mesh.cells → EditFits mesh edit → IsMesh (edited mesh edit).points (edited mesh edit).cells
keeps mesh (Point p) valid fits = IsMesh-point mesh.points mesh.cells p valid fits
keeps mesh (Add corners) valid fits =
    IsMesh-cells mesh.points mesh.cells (Some (corners_of corners) ∷ []) valid (omega arith)
    (All-from_recursion (λ cell. IfSome cell (IsWithin (length mesh.points))) (Some (corners_of corners) ∷ []) (fits.0, tt))
    (All-from_recursion (λ cell. IfSome cell AreDifferent) (Some (corners_of corners) ∷ []) (fits.1, tt))
keeps mesh (Remove i) valid fits = IsMesh-removed mesh.points mesh.cells i valid
keeps mesh (Split i p) valid fits = by (cell_at mesh.cells i) refl fits.0
  where
    n : ℕ
    n = length mesh.points

    one_more : length (mesh.points ++ p ∷ []) ≡ n + 1
    one_more = length-append mesh.points (p ∷ [])

    after : (c : Corners) → cell_at mesh.cells i ≡ Some c → IsMesh (mesh.points ++ p ∷ []) (split_cells mesh.cells n i c)
    after c e =
        let w = cell_fact (IsWithin n) mesh.cells i c e valid.within in
        let d = cell_fact AreDifferent mesh.cells i c e valid.different in
        let l = length-set mesh.cells i None in
        IsMesh-cells (mesh.points ++ p ∷ []) (set mesh.cells i None) (quarters n c)
        (IsMesh-removed (mesh.points ++ p ∷ []) mesh.cells i (IsMesh-point mesh.points mesh.cells p valid fits.1))
        (omega (arith, fits.2))
        (subst (λ k. AreWithin k (quarters n c)) (sym one_more) (IsWithin-quarters n c w))
        (AreDifferent-quarters n c w d)

    by : (o : Option Corners) → cell_at mesh.cells i ≡ o → IsSome o → IsMesh (mesh.points ++ p ∷ []) (option_map_or (split_cells mesh.cells n i) o mesh.cells)
    by None e some = absurd (cc)
    by (Some c) e some = after c e

pub keeps_in_range : (mesh : MeshView) (edit : Edit) → All IsPlace mesh.points → AddsInRange edit → All IsPlace (edited mesh edit).points
keeps_in_range mesh (Point p) a h = All-push IsPlace mesh.points p a h
keeps_in_range mesh (Add corners) a h = a
keeps_in_range mesh (Remove i) a h = a
keeps_in_range mesh (Split i p) a h = All-push IsPlace mesh.points p a h

pub in_range : (c : ℤ) → IsCoordinate (held c)
in_range c = (omega (arith, ints, clamps), omega (arith, ints, clamps))

pub place_in_range : (p : Place) → IsPlace (held_place p)
place_in_range p = (in_range p.0, in_range p.1, in_range p.2)

pub moved_in_range : (mesh : MeshView) (kernel : Kernel) (k : ℕ) → All IsPlace (moved mesh kernel k)
moved_in_range mesh kernel k = All-map IsPlace (λ v. held_place (place_by mesh kernel k v)) (numbers mesh) (λ i d lt. place_in_range (place_by mesh kernel k (get_or (numbers mesh) i d)))
