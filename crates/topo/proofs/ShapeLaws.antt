-- lemmas on shapes
use Rattle.std.proofs.Common.{◌≡◌, ℕ, ◌+◌, ◌*◌, ◌/◌, ◌%◌, ◌<◌, ◌≤◌, List, length, filter, flat_map, get_or, Option, sym, ap, subst, ◌∙◌, arith}
use Rattle.std.specs.List.{range_with_len}
use Rattle.mesh_base.specs.Mesh.{MeshView, Corners, is_surface}
use Rattle.topo.specs.Topology.{Topology, IsTopologyOf, IsTopology}
use Rattle.topo.specs.Chunks.{Each, AreChunks}
use Rattle.topo.specs.RowChunks.{RowsView, row_of, HasRow, IsRowChunk}
use Rattle.topo.specs.Shapes.{IsShape, topology_of}
use Rattle.topo.proofs.ChunkLaws.{each-at, chunks-joined}

-- what two topologies have makes them one
topology_with : ℕ → List (Option Corners) → Topology
topology_with k l = record { points = k; cells = l }

shape-eq : (t : Topology) (k : ℕ) (l : List (Option Corners)) → k ≡ t.points → l ≡ t.cells → topology_with k l ≡ t
unfolding topology_with
shape-eq t k l a b = ap (λ i. topology_with i l) a ∙ ap (λ r. topology_with t.points r) b

-- the topology of a mesh
pub topology-is : (mesh : MeshView) (t : Topology) → IsTopologyOf mesh t → topology_of mesh ≡ t
unfolding topology_with
topology-is mesh t h = shape-eq t (length mesh.points) mesh.cells h.0 h.1

module _ {C R : Type 0} (cell_list : C → List (Option Corners)) (lists : R → RowsView) where
  -- chunks of a topology are a shape of what they are together
  pub shape-of : (t : Topology) (n m : ℕ) (surface : List ℕ) (xs : List (Option Corners)) (cells : List C) (rows : List R) → n ≡ t.points → xs ≡ t.cells → m ≡ length t.cells → IsTopology t.points t.cells → surface ≡ filter (is_surface t.cells) (range_with_len 0 t.points) → AreChunks cell_list xs cells → Each (λ k c. IsRowChunk t k (lists c)) rows → t.points ≤ 4096 * length rows → IsShape cell_list lists (record { points = n; cells = flat_map cell_list cells }) m surface cells rows
  unfolding topology_with
  shape-of t n m surface xs cells rows points same count valid listed chunks near all =
      let is : flat_map cell_list cells ≡ t.cells = chunks-joined cell_list xs cells chunks ∙ same in
      let e = shape-eq t n (flat_map cell_list cells) points is in
      subst (λ u. IsShape cell_list lists u m surface cells rows) (sym e)
      (record {
        valid = valid;
        count = count;
        listed = listed;
        chunks = subst (λ l. AreChunks cell_list l cells) same chunks;
        near = near;
        all = all;
      })

-- the neighbours of v are list v % 4096 of chunk v / 4096
pub rows-holding : {R : Type 0} (lists : R → RowsView) (t : Topology) (rows : List R) (v : ℕ) (c : R) → t.points ≤ 4096 * length rows → Each (λ k r. IsRowChunk t k (lists r)) rows → v < t.points → c ≡ get_or rows (v / 4096) c → HasRow (lists c) (v % 4096) (row_of t v)
rows-holding lists t rows v c all near lt e =
    let at : 4096 * (v / 4096) + v % 4096 ≡ v = omega arith in
    let chunk = each-at (λ k r. IsRowChunk t k (lists r)) rows (v / 4096) c (omega (arith, lt, all)) e near in
    subst (λ k. HasRow (lists c) (v % 4096) (row_of t k)) at (chunk.each (v % 4096) (omega arith) (omega (arith, lt)))
