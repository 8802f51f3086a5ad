-- what an edit does to a mesh, and when it may come
use Rattle.std.specs.Prelude.{ℕ, ◌<◌, ◌≤◌, List, [], ◌∷◌, ◌++◌, length, Option, Some, None, IsSome, slice_get, slice_set, option_and_then}
use Rattle.std.specs.Option.{option_map_or}
use Rattle.mesh_base.specs.Place.{IsPlace}
use Rattle.mesh_base.specs.Mesh.{MeshView, Corners, corners_of, AreDifferent, IsWithin}
use Rattle.mesh_base.specs.declared.edit.Edit.{Edit}
use Rattle.mesh_base.specs.declared.edit.Edit.TheVariants.{Point, Add, Remove, Split}
use Rattle.mesh_base.specs.Limits.{most_cells, most_points, most_to_split}

-- the corners of cell i, if it is there and live
abbrev pub cell_at : List (Option Corners) → ℕ → Option Corners
cell_at cells i = option_and_then (λ cell. cell) (slice_get cells i)

-- the cell with each corner in turn replaced by n
abbrev pub quarters : ℕ → Corners → List (Option Corners)
quarters n c = Some (n, c.1, c.2, c.3) ∷ Some (c.0, n, c.2, c.3) ∷ Some (c.0, c.1, n, c.3) ∷ Some (c.0, c.1, c.2, n)
    ∷ []

-- the cells after cell i, whose corners are c, is split round point n
abbrev pub split_cells : List (Option Corners) → ℕ → ℕ → Corners → List (Option Corners)
split_cells cells n i c = slice_set cells i None ++ quarters n c

-- the mesh after the edit
abbrev pub edited : MeshView → Edit → MeshView
edited mesh (Point at) = record mesh { points = mesh.points ++ at ∷ [] }
edited mesh (Add corners) = record mesh { cells = mesh.cells ++ Some (corners_of corners) ∷ [] }
edited mesh (Remove i) = record mesh { cells = slice_set mesh.cells i None }
edited mesh (Split i at) =
    record {
      points = mesh.points ++ at ∷ [];
      cells = option_map_or (split_cells mesh.cells (length mesh.points) i) (cell_at mesh.cells i) mesh.cells;
    }

-- the edit names points and live cells that are there, and the mesh stays within its limits
abbrev pub EditFits : MeshView → Edit → Type 0
EditFits mesh (Point at) = length mesh.points < most_points
EditFits mesh (Add corners) =
    IsWithin (length mesh.points) (corners_of corners) × AreDifferent (corners_of corners)
    × (length mesh.cells < most_cells)
EditFits mesh (Remove i) = IsSome (cell_at mesh.cells i)
EditFits mesh (Split i at) = IsSome (cell_at mesh.cells i) × (length mesh.points < most_points)
    × (length mesh.cells ≤ most_to_split)

-- the point that the edit adds, if it adds one, is in range
abbrev pub AddsInRange : Edit → Type 0
AddsInRange (Point at) = IsPlace at
AddsInRange (Add corners) = Unit {0}
AddsInRange (Remove i) = Unit {0}
AddsInRange (Split i at) = IsPlace at
