-- what is kept beside the cells
use Rattle.std.specs.Prelude.{◌≡◌, ℕ, ◌+◌, ◌-◌, ◌≤◌, List, length, Option, take, drop, slice_index}
use Rattle.mesh_base.specs.Mesh.{Corners}
use Rattle.face_table.specs.Tally.{Tally, IsTallyOf}
use Rattle.edge_table.specs.Pairs.{RowView, IsPairsOf}
use Rattle.topo.specs.Topology.{IsTopology}

-- both tables are those of these cells over so many points
pub record AreTables (points : ℕ) (cells : List (Option Corners)) (faces : Tally) (edges : List RowView) : Type 0 where
  pub valid : IsTopology points cells
  pub tally : IsTallyOf cells faces
  pub pairs : IsPairsOf cells edges
  pub face_points : faces.points ≡ points
  pub edge_points : length edges ≡ points

-- the part of near from the number at v to the next one is this list
pub record IsRowAt (starts near : List ℕ) (v : ℕ) (row : List ℕ) : Type 0 where
  pub ordered : slice_index starts v ≤ slice_index starts (v + 1)
  pub ends : slice_index starts (v + 1) ≤ length near
  pub part : take (slice_index starts (v + 1) - slice_index starts v) (drop (slice_index starts v) near) ≡ row
