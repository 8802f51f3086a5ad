-- the pairs of cells, each counted at the corner that comes first in it
use Rattle.std.specs.Prelude.{ℕ, ◌+◌, ◌==◌, ◌&&◌, List, sum_by, if◌then◌else◌}
use Rattle.mesh_base.specs.Mesh.{Corners}

-- n where v and w are these two
abbrev pub pair_of : ℕ → ℕ → ℕ → ℕ → ℕ → ℕ
pair_of v w n a u = if (v == a) && (w == u) then n else 0

-- how often a and u are counted at v, a corner beside x, y and z
abbrev pub pairs_at : ℕ → ℕ → ℕ → ℕ → ℕ → ℕ → ℕ
pairs_at v x y z a u = pair_of v x 1 a u + pair_of v y 1 a u + pair_of v z 1 a u

-- how often they are counted at a corner
abbrev pub corner_pairs : ℕ → ℕ → Corners → ℕ
corner_pairs a u k = pairs_at k.0 k.1 k.2 k.3 a u

-- how often they were seen
abbrev pub seen_pairs : List (ℕ × ℕ × ℕ) → ℕ → ℕ → ℕ
seen_pairs seen a u = sum_by (λ e. pair_of e.0 e.1 e.2 a u) seen
