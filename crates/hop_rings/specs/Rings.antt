-- rings: the vertices of each level, with their sources
use Rattle.std.specs.Prelude.{◌≡◌, ℕ, zero, suc, ◌+◌, ◌<◌, List, [], length, slice_index, slice_index_or, Contains}
use Rattle.mesh_base.specs.Numbers.{IsListOf}
use Rattle.mesh_base.specs.Mesh.{MeshView}
use Rattle.hop_rings.specs.declared.ring.Ring.{Ring}
use Rattle.hop_rings.specs.Paths.{IsLevel, IsSource}

-- for each vertex of level n its least neighbour of the level before; level 0 has none
abbrev pub AreSources : MeshView → List ℕ → ℕ → List ℕ → List ℕ → Type 0
AreSources mesh vs zero vertices sources = sources ≡ []
AreSources mesh vs (suc n) vertices sources =
    (length sources ≡ length vertices)
    × ((k : ℕ) → k < length vertices → IsSource mesh vs n (slice_index vertices k) (slice_index sources k))

-- all vertices of level n, ascending, and their sources
pub record IsRing (mesh : MeshView) (vs : List ℕ) (n : ℕ) (ring : Ring) : Type 0 where
  pub vertices : IsListOf (IsLevel mesh vs n) ring.vertices
  pub sources : AreSources mesh vs n ring.vertices ring.sources

-- a ring without vertices
abbrev pub no_ring : Ring
no_ring = record { vertices = []; sources = [] }

-- ring n of a list
abbrev pub ring_at : List Ring → ℕ → Ring
ring_at rings n = slice_index_or rings n no_ring

-- the rings of levels 0, 1, 2 and so on
pub record AreRings (mesh : MeshView) (vs : List ℕ) (rings : List Ring) : Type 0 where
  pub each : (n : ℕ) → n < length rings → IsRing mesh vs n (ring_at rings n)

-- they are those of some list of vertices of some mesh
pub record AreRingsOfOne (rings : List Ring) : Type 0 where
  pub mesh : MeshView
  pub inside : List ℕ
  pub are : AreRings mesh inside rings

-- v is in ring n of the list
pub record IsInRing (rings : List Ring) (n v : ℕ) : Type 0 where
  pub within : n < length rings
  pub member : Contains (ring_at rings n).vertices v

-- s is the source of v in the ring
pub record HasSource (ring : Ring) (v s : ℕ) : Type 0 where
  pub place : ℕ
  pub within : place < length ring.vertices
  pub vertex : slice_index ring.vertices place ≡ v
  pub source : slice_index ring.sources place ≡ s

-- from a vertex of ring 0 to v, in each ring one vertex, of which the one before is the source
pub record IsTrail (rings : List Ring) (v : ℕ) (path : List ℕ) : Type 0 where
  pub level : ℕ
  pub long : length path ≡ level + 1
  pub ends : slice_index path level ≡ v
  pub each : (k : ℕ) → k < length path → IsInRing rings k (slice_index path k)
  pub steps : (k : ℕ) → k < level → HasSource (ring_at rings (k + 1)) (slice_index path (k + 1)) (slice_index path k)
