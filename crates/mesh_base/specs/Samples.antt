-- small meshes on which the definitions are worked out
use Rattle.std.specs.Prelude.{◌≡◌, ℕ, ◌^◌, pos, neg_ℤ, List, [], ◌∷◌, Option, Some}
use Rattle.mesh_base.specs.Place.{Place, Area}
use Rattle.mesh_base.specs.Mesh.{MeshView, Corners}
use Rattle.mesh_base.specs.Edit.{edited}
use Rattle.mesh_base.specs.Answer.{IsAnswer, answer}
use Rattle.mesh_base.specs.Reads.{read_bound}
use Rattle.mesh_base.specs.declared.answer.Route.{Route}
use Rattle.mesh_base.specs.declared.edit.Edit.TheVariants.{Point, Add, Remove, Split}

-- a place without negative coordinates
abbrev pub at : ℕ → ℕ → ℕ → Place
at x y z = (pos x, pos y, pos z)

-- a live cell
abbrev pub cell : ℕ → ℕ → ℕ → ℕ → Option Corners
cell a b c d = Some (a, b, c, d)

-- the box from a low corner to a high one
abbrev pub box : Place → Place → Area
box lo hi = record { lo = lo; hi = hi }

-- one cell between the origin and a point on each axis, n away
abbrev pub one_cell : ℕ → MeshView
one_cell n = record { points = at 0 0 0 ∷ at n 0 0 ∷ at 0 n 0 ∷ at 0 0 n ∷ []; cells = cell 0 1 2 3 ∷ [] }

-- a cell split round a point
abbrev pub split_once : MeshView
split_once = edited (one_cell 16) (Split 0 (at 4 4 4))

-- one of its quarters split round another
abbrev pub split_twice : MeshView
split_twice = edited split_once (Split 2 (at 2 6 3))

-- one more of its cells removed
abbrev pub opened : MeshView
opened = edited split_twice (Remove 3)

-- the same cell twice, so that each face has two cells
abbrev pub doubled : MeshView
doubled = edited (one_cell 4) (Add (0 ∷ 1 ∷ 2 ∷ 3 ∷ []))

-- a point that no cell has beside one cell
abbrev pub with_spare : MeshView
with_spare = edited (one_cell 4) (Point (at 1 0 0))

-- each four of five points a cell, so that each face has two cells
abbrev pub all_fours : MeshView
all_fours = record {
  points = at 0 0 0 ∷ at 4 0 0 ∷ at 0 4 0 ∷ at 0 0 4 ∷ at 1 1 1 ∷ [];
  cells = cell 0 1 2 3 ∷ cell 0 1 2 4 ∷ cell 0 1 3 4 ∷ cell 0 2 3 4 ∷ cell 1 2 3 4 ∷ [];
}

-- one cell with a point as far out as points may be
abbrev pub far_out : MeshView
far_out = record { points = at (2 ^ 30) 0 0 ∷ at 0 0 0 ∷ at 0 1 0 ∷ at 0 0 1 ∷ []; cells = cell 0 1 2 3 ∷ [] }

-- no points and no cells
abbrev pub empty : MeshView
empty = record { points = []; cells = [] }

-- the two ends of the longest diagonal
abbrev pub least_corner : Place
least_corner = (neg_ℤ (pos (2 ^ 30)), neg_ℤ (pos (2 ^ 30)), neg_ℤ (pos (2 ^ 30)))

abbrev pub greatest_corner : Place
greatest_corner = at (2 ^ 30) (2 ^ 30) (2 ^ 30)

-- the box has this route, this answer and this bound on its reads
abbrev pub IsWorked : MeshView → Area → Route → List ℕ → ℕ → Type 0
IsWorked mesh area r vs reads = IsAnswer mesh area r vs × (answer mesh area ≡ vs) × (read_bound mesh area vs ≡ reads)
