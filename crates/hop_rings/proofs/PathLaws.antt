-- paths, levels, and what was reached
use Rattle.std.proofs.Common.{◌≡◌, ℕ, zero, suc, ◌<◌, ◌≤◌, List, [], ◌∷◌, ◌++◌, length, get_or, Contains, refl, sym, subst, arith, length-append}
use Rattle.std.specs.List.Sorted.{IsStrictlyIncreasing}
use Rattle.mesh_base.specs.Numbers.{IsListOf}
use Rattle.mesh_base.specs.Mesh.{MeshView, are_neighbours, neighbours, vertices}
use Rattle.mesh_base.proofs.JoinedLaws.{neighbours-sym}
use Rattle.mesh_base.proofs.NumberLaws.{of_neighbours, of_vertices, to_numbers}
use Rattle.hop_rings.specs.Paths.{EdgePath, PathTo, IsLevel, IsSource}

module _ (mesh : MeshView) where
  -- a path goes on by one edge
  extend : (s : ℕ) (us : List ℕ) (v w : ℕ) → EdgePath mesh s us v → Contains (neighbours mesh v) w → EdgePath mesh s (us ++ w ∷ []) w
  extend s [] v w p n = (subst (λ k. Contains (neighbours mesh k) w) (sym p) n, refl)
  extend s (u ∷ us) v w p n = (p.0, extend u us v w p.1 n)

  -- a path without its last edge
  split : (s u : ℕ) (us : List ℕ) (w : ℕ) → EdgePath mesh s (u ∷ us) w → (v : ℕ) × (rest : List ℕ) × EdgePath mesh s rest v × Contains (neighbours mesh v) w × (length rest ≡ length us)
  split s u [] w p = (s, [], refl, subst (λ k. Contains (neighbours mesh s) k) p.1 p.0, refl)
  split s u (x ∷ us) w p = let r = split u x us w p.1 in let l = r.4 in (r.0, u ∷ r.1, (p.0, r.2), r.3, omega arith)

  -- steps from one vertex to the next are a path
  pub edges_of : (s : ℕ) (rest : List ℕ) (v : ℕ) → ((k : ℕ) → k < length rest → Contains (neighbours mesh (get_or (s ∷ rest) k 0)) (get_or (s ∷ rest) (suc k) 0)) → get_or (s ∷ rest) (length rest) 0 ≡ v → EdgePath mesh s rest v
  edges_of s [] v h e = e
  edges_of s (u ∷ us) v h e = (h 0 (omega arith), edges_of u us v (λ k lt. h (suc k) (omega arith)) e)

module _ (mesh : MeshView) (vs : List ℕ) where
  pub path_on : (n v w : ℕ) → PathTo mesh vs n v → Contains (neighbours mesh v) w → PathTo mesh vs (suc n) w
  path_on n v w p e = record {
    start = p.start;
    rest = p.rest ++ w ∷ [];
    from = p.from;
    edges = extend mesh p.start p.rest v w p.edges e;
    long = omega (arith, p.long, length-append p.rest (w ∷ []));
  }

  pub record LastEdge (n w : ℕ) : Type 0 where
    pub before : ℕ
    pub path : PathTo mesh vs n before
    pub edge : Contains (neighbours mesh before) w

  pub last_edge : (n w : ℕ) → PathTo mesh vs (suc n) w → LastEdge n w
  last_edge n w p = by p.rest p.edges p.long
    where
      by : (us : List ℕ) → EdgePath mesh p.start us w → length us ≡ suc n → LastEdge n w
      by [] e l = absurd (omega arith)
      by (u ∷ us) e l =
          let r = split mesh p.start u us w e in
          let q = r.4 in
          record { before = r.0; path = record { start = p.start; rest = r.1; from = p.from; edges = r.2; long = omega arith }; edge = r.3 }

  pub start_path : (v : ℕ) → Contains vs v → PathTo mesh vs 0 v
  start_path v m = record { start = v; rest = []; from = m; edges = refl; long = refl }

  pub zero_path : (v : ℕ) → PathTo mesh vs 0 v → Contains vs v
  zero_path v p = by p.rest p.edges p.long
    where
      by : (us : List ℕ) → EdgePath mesh p.start us v → length us ≡ 0 → Contains vs v
      by [] e l = subst (Contains vs) e p.from
      by (u ∷ us) e l = absurd (omega arith)

  pub level_zero : (v : ℕ) → Contains vs v → IsLevel mesh vs 0 v
  level_zero v m = record { path = start_path v m; least = λ k p. omega arith }

  -- the vertices themselves have level 0
  pub first_level : IsStrictlyIncreasing vs → IsListOf (IsLevel mesh vs 0) vs
  first_level up = record { ascending = up; every = λ w l. zero_path w l.path; only = level_zero }

  -- what a path leads to is a point
  pub path_point : ((v : ℕ) → Contains vs v → Contains (vertices mesh) v) → (n v : ℕ) → PathTo mesh vs n v → v < length mesh.points
  path_point inside zero v p = (of_vertices mesh v (inside v (zero_path v p))).1
  path_point inside (suc n) v p = let e = last_edge n v p in (of_neighbours mesh e.before v e.edge).1

  -- the vertex before the last one has the level before
  pub level_before : (n w : ℕ) → ((m : ℕ) → PathTo mesh vs m w → suc n ≤ m) → (e : LastEdge n w) → IsLevel mesh vs n e.before
  level_before n w least e = record {
    path = e.path;
    least = λ m p. let l = least (suc m) (path_on m e.before w p e.edge) in omega arith;
  }

  -- a vertex is a neighbour of its source
  pub source_edge : (n v s : ℕ) → IsLevel mesh vs (suc n) v → IsSource mesh vs n v s → Contains (neighbours mesh s) v
  source_edge n v s l h =
      let e = last_edge n v l.path in
      to_numbers mesh (are_neighbours mesh.cells s) v (neighbours-sym mesh.cells v s (of_neighbours mesh v s h.near).0) (of_neighbours mesh e.before v e.edge).1
