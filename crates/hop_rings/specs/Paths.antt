-- paths along the edges of a mesh, and least distances
use Rattle.std.specs.Prelude.{◌≡◌, ℕ, ◌≤◌, List, [], ◌∷◌, length, Contains}
use Rattle.mesh_base.specs.Mesh.{MeshView, neighbours}

-- from s by these vertices to v: each is a neighbour of the one before
abbrev pub EdgePath : MeshView → ℕ → List ℕ → ℕ → Type 0
EdgePath mesh s [] v = s ≡ v
EdgePath mesh s (u ∷ us) v = Contains (neighbours mesh s) u × EdgePath mesh u us v

-- a path from a vertex of the list to v, n edges long
pub record PathTo (mesh : MeshView) (vs : List ℕ) (n v : ℕ) : Type 0 where
  pub start : ℕ
  pub rest : List ℕ
  pub from : Contains vs start
  pub edges : EdgePath mesh start rest v
  pub long : length rest ≡ n

-- v has level n: the shortest path from the list to v is n edges long
pub record IsLevel (mesh : MeshView) (vs : List ℕ) (n v : ℕ) : Type 0 where
  pub path : PathTo mesh vs n v
  pub least : (m : ℕ) → PathTo mesh vs m v → n ≤ m

-- s is the least neighbour of v that has level n
pub record IsSource (mesh : MeshView) (vs : List ℕ) (n v s : ℕ) : Type 0 where
  pub near : Contains (neighbours mesh v) s
  pub level : IsLevel mesh vs n s
  pub least : (u : ℕ) → Contains (neighbours mesh v) u → IsLevel mesh vs n u → s ≤ u

-- the list is a path from a vertex of vs to v, and no path from vs to v is shorter
pub record IsShortest (mesh : MeshView) (vs : List ℕ) (v : ℕ) (path : List ℕ) : Type 0 where
  pub start : ℕ
  pub rest : List ℕ
  pub is : path ≡ start ∷ rest
  pub from : Contains vs start
  pub edges : EdgePath mesh start rest v
  pub least : (m : ℕ) → PathTo mesh vs m v → length rest ≤ m
