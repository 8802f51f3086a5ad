-- the neighbours of the points of a chunk
use Rattle.std.specs.Prelude.{ℕ, ◌+◌, ◌*◌, ◌<◌, List, length, filter}
use Rattle.std.specs.List.{range_with_len}
use Rattle.mesh_base.specs.Mesh.{are_neighbours}
use Rattle.topo.specs.Topology.{Topology}
use Rattle.topo.specs.Tables.{IsRowAt}

-- lists of neighbours one after the other, and where each begins
pub record RowsView : Type 0 where
  pub starts : List ℕ
  pub near : List ℕ

-- the neighbours of v, ascending
abbrev pub row_of : Topology → ℕ → List ℕ
row_of t v = filter (are_neighbours t.cells v) (range_with_len 0 t.points)

-- list number j is this one
pub record HasRow (rows : RowsView) (j : ℕ) (row : List ℕ) : Type 0 where
  pub there : j + 1 < length rows.starts
  pub at : IsRowAt rows.starts rows.near j row

-- the lists are the neighbours of the points from number 4096 k on, of at most 4,096
pub record IsRowChunk (t : Topology) (k : ℕ) (rows : RowsView) : Type 0 where
  pub each : (j : ℕ) → j < 4096 → 4096 * k + j < t.points → HasRow rows j (row_of t (4096 * k + j))
