-- which points were reached, and from where
use Rattle.std.specs.Prelude.{◌≡◌, ℕ, ◌+◌, ◌<◌, ◌≤◌, ◌==◌, Bool, if◌then◌else◌, List, length, Option, Some, None, is_some, IsTrue, count_by, find, slice_index_or}
use Rattle.mesh_base.specs.Mesh.{MeshView, are_neighbours}
use Rattle.hop_rings.specs.Paths.{PathTo}

-- the vertex that point w was reached from
abbrev pub from_at : List (Option ℕ) → ℕ → Option ℕ
from_at from w = slice_index_or from w None

-- w was reached
abbrev pub is_reached : List (Option ℕ) → ℕ → Bool
is_reached from w = is_some (from_at from w)

-- what was there, or else this
abbrev pub or_else : Option ℕ → Option ℕ → Option ℕ
or_else (Some s) o = Some s
or_else None o = o

-- the first of these vertices that has w as a neighbour
abbrev pub first_near : MeshView → List ℕ → ℕ → Option ℕ
first_near mesh us w = find (λ u. are_neighbours mesh.cells u w) us

-- how often a number stands in a list
abbrev pub times : List ℕ → ℕ → ℕ
times xs v = count_by (λ x. x == v) xs

-- 1 where it is so
abbrev pub bit : Bool → ℕ
bit b = if b then 1 else 0

-- Each point that was not reached before was reached from `source` of it, if there is one. What was reached since then
-- stands once more in the list.
pub record IsSpread (source : ℕ → Option ℕ) (before after : List (Option ℕ)) (found more : List ℕ) : Type 0 where
  pub len : length after ≡ length before
  pub each : (w : ℕ) → w < length before → from_at after w ≡ or_else (from_at before w) (source w)
  pub listed : (w : ℕ) → times more w + bit (is_reached before w) ≡ times found w + bit (is_reached after w)

-- a path at most n edges long leads from the list to v
pub record IsNear (mesh : MeshView) (vs : List ℕ) (n v : ℕ) : Type 0 where
  pub edges : ℕ
  pub few : edges ≤ n
  pub path : PathTo mesh vs edges v

-- what was reached is what such paths lead to
pub record AreNear (mesh : MeshView) (vs : List ℕ) (n : ℕ) (from : List (Option ℕ)) : Type 0 where
  pub len : length from ≡ length mesh.points
  pub near : (w : ℕ) → IsTrue (is_reached from w) → IsNear mesh vs n w
  pub every : (w : ℕ) → IsNear mesh vs n w → IsTrue (is_reached from w)
