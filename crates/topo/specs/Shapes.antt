-- what a shape keeps, and what a topology keeps of its last shape
use Rattle.std.specs.Prelude.{◌≡◌, ℕ, ◌*◌, ◌/◌, ◌≤◌, List, length, Option, Some, None, filter, take, slice_set}
use Rattle.std.specs.List.{range_with_len}
use Rattle.mesh_base.specs.Mesh.{MeshView, Corners, corners_of, is_surface}
use Rattle.mesh_base.specs.Edit.{cell_at}
use Rattle.mesh_base.specs.declared.edit.Edit.{Edit}
use Rattle.mesh_base.specs.declared.edit.Edit.TheVariants.{Point, Add, Remove, Split}
use Rattle.topo.specs.Topology.{Topology, IsTopology}
use Rattle.topo.specs.Chunks.{chunk_of, Each, Kept, AreChunks}
use Rattle.topo.specs.RowChunks.{RowsView, IsRowChunk}

-- the chunks are those of the cells and of the neighbours, and the list is the surface
pub record IsShape {C R : Type 0} (cell_list : C → List (Option Corners)) (row_lists : R → RowsView) (t : Topology)
    (so_many : ℕ) (surface : List ℕ) (cells : List C) (rows : List R) : Type 0 where
  pub valid : IsTopology t.points t.cells
  pub count : so_many ≡ length t.cells
  pub listed : surface ≡ filter (is_surface t.cells) (range_with_len 0 t.points)
  pub chunks : AreChunks cell_list t.cells cells
  pub near : Each (λ k c. IsRowChunk t k (row_lists c)) rows
  pub all : t.points ≤ 4096 * length rows

-- each chunk of cells that is kept is one of these cells
abbrev pub AreKeptCells : {C : Type 0} → (C → List (Option Corners)) → List (Option Corners) → List (Option C) → Type 0
AreKeptCells cell_list cells kept = Each (Kept (λ k c. cell_list c ≡ chunk_of cells k)) kept

-- each chunk of neighbours that is kept is one of this topology
abbrev pub AreKeptRows : {R : Type 0} → (R → RowsView) → Topology → List (Option R) → Type 0
AreKeptRows row_lists t kept = Each (Kept (λ k c. IsRowChunk t k (row_lists c))) kept

-- how many points a mesh has, and its cells
abbrev pub topology_of : MeshView → Topology
topology_of mesh = record { points = length mesh.points; cells = mesh.cells }

-- the corners of the cell that an edit puts in, takes out or splits
abbrev pub touched_by : MeshView → Edit → Option Corners
touched_by mesh (Point at) = None
touched_by mesh (Add corners) = Some (corners_of corners)
touched_by mesh (Remove i) = cell_at mesh.cells i
touched_by mesh (Split i at) = cell_at mesh.cells i

-- what is kept of the rows where an edit adds a point or none, of a topology with n points
abbrev pub left_rows : {R : Type 0} → Edit → ℕ → List (Option R) → List (Option R)
left_rows (Point at) n kept = take (n / 4096) kept
left_rows (Add corners) n kept = kept
left_rows (Remove i) n kept = kept
left_rows (Split i at) n kept = take (n / 4096) kept

-- and where a cell comes or goes
abbrev pub left_corners : {R : Type 0} → Option Corners → List (Option R) → List (Option R)
left_corners None kept = kept
left_corners (Some c) kept = slice_set (slice_set (slice_set (slice_set kept (c.0 / 4096) None) (c.1 / 4096) None)
    (c.2 / 4096) None) (c.3 / 4096) None
