-- what a mesh is without the places of its points
use Rattle.std.specs.Prelude.{◌≡◌, ℕ, ◌≤◌, List, length, Option}
use Rattle.mesh_base.specs.Place.{Place}
use Rattle.mesh_base.specs.Mesh.{MeshView, Corners, AreWithin, AreAllDifferent}
use Rattle.mesh_base.specs.Edit.{EditFits}
use Rattle.mesh_base.specs.declared.edit.Edit.{Edit}
use Rattle.mesh_base.specs.Limits.{most_cells, most_points}

-- how many points there are, and the cells, of which some are absent
pub record Topology : Type 0 where
  pub points : ℕ
  pub cells : List (Option Corners)

-- the mesh has so many points, and these cells
abbrev pub IsTopologyOf : MeshView → Topology → Type 0
IsTopologyOf mesh topology = (length mesh.points ≡ topology.points) × (mesh.cells ≡ topology.cells)

-- the mesh with these places, and these cells
abbrev pub mesh_at : List Place → Topology → MeshView
mesh_at places topology = record { points = places; cells = topology.cells }

-- the edit fits a mesh with this topology: then it fits each
abbrev pub Fits : Topology → Edit → Type 0
Fits topology edit = (mesh : MeshView) × IsTopologyOf mesh topology × EditFits mesh edit

-- the limits, and each live cell has four different points of those that there are
pub record IsTopology (points : ℕ) (cells : List (Option Corners)) : Type 0 where
  pub few_points : points ≤ most_points
  pub few_cells : length cells ≤ most_cells
  pub within : AreWithin points cells
  pub different : AreAllDifferent cells
