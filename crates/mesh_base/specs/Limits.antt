-- the limits of a mesh
use Rattle.std.specs.Prelude.{ℕ}

-- the most points that it may have
abbrev pub most_points : ℕ
most_points = 1000000

-- the most cells, the absent ones included
abbrev pub most_cells : ℕ
most_cells = 4000000

-- the most cells of a mesh in which one may be split, since the four parts come after them
abbrev pub most_to_split : ℕ
most_to_split = 3999996
