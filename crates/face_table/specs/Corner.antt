-- the faces of cells, each counted at the corner that is its least number
use Rattle.std.specs.Prelude.{ℕ, ◌+◌, ◌&&◌, List, count_by, if◌then◌else◌, nat_lt}
use Rattle.mesh_base.specs.Mesh.{Face, Corners, face_of, face_eq}

-- 1 where f is the face of the three, and v is the least of them
abbrev pub least_share : ℕ → ℕ → ℕ → Face → ℕ
least_share v x y f = if nat_lt v x && (nat_lt v y && face_eq (face_of v x y) f) then 1 else 0

-- how often f is counted at v, a corner beside x, y and z
abbrev pub share_at : ℕ → ℕ → ℕ → ℕ → Face → ℕ
share_at v x y z f = least_share v x y f + least_share v x z f + least_share v y z f

-- how often it is counted at a corner
abbrev pub corner_share : Face → Corners → ℕ
corner_share f k = share_at k.0 k.1 k.2 k.3 f

-- how often it was seen
abbrev pub seen_of : List Face → Face → ℕ
seen_of seen f = count_by (λ g. face_eq g f) seen
