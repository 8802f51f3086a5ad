-- One list for finished cells and for those whose types are still to come.
use Rattle.std.specs.Prelude.{◌≡◌, ℕ, suc, ◌-◌, ◌≤◌, List, [], ◌∷◌, ◌++◌, length, drop, Option, Some, None, slice_index_or}
use Rattle.mesh_base.specs.Mesh.{Corners}
use Rattle.vtk_legacy.specs.Kept.{Waiting, first_row}

-- the cells whose types are still to come, and the tetrahedra among those whose types came
pub record Rows : Type 0 where
  pub waiting : List Waiting
  pub done : List (Option Corners)

-- the cells of these entries: where one is absent, its size is the next of these
abbrev pub weave : List (Option Corners) → List ℕ → List Waiting
weave [] sizes = []
weave (Some c ∷ entries) sizes = record { size = 4; cell = Some c } ∷ weave entries sizes
weave (None ∷ entries) sizes = record { size = slice_index_or sizes 0 0; cell = None } ∷ weave entries (drop 1 sizes)

-- how many entries are absent
abbrev pub absent : List (Option Corners) → ℕ
absent [] = 0
absent (Some c ∷ entries) = absent entries
absent (None ∷ entries) = suc (absent entries)

-- Finished cells stand in front of those that are still to be used, and each absent entry among these has a size.
pub record IsTable (entries : List (Option Corners)) (kept used : ℕ) (sizes : List ℕ) (passed : ℕ) : Type 0 where
  pub few_kept : kept ≤ used
  pub few_used : used ≤ length entries
  pub few_passed : passed ≤ length sizes
  pub sized : absent (drop used entries) ≡ length sizes - passed

abbrev pub with_waiting : Waiting → Rows → Rows
with_waiting row rows = record { waiting = rows.waiting ++ row ∷ []; done = rows.done }

-- the first cell is done: it is one more tetrahedron, or is left out
abbrev pub first_done : Rows → Rows
first_done rows = record { waiting = drop 1 rows.waiting; done = rows.done ++ (first_row rows.waiting).cell ∷ [] }

abbrev pub first_out : Rows → Rows
first_out rows = record { waiting = drop 1 rows.waiting; done = rows.done }
