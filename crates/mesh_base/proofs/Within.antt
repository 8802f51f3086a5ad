-- the corners of cells are points
use Rattle.std.proofs.Common.{◌≡◌, ℕ, ◌<◌, ◌||◌, Bool, true, false, List, [], ◌∷◌, Option, Some, None, IfSome, refl, arith}
use Rattle.std.proofs.lemmas.Bool.{false≢true}
use Rattle.std.proofs.lemmas.Bool.Decides.{nat_tests}
use Rattle.std.proofs.lemmas.List.Elements.{All-head, All-tail}
use Rattle.mesh_base.specs.Mesh.{Corners, IsWithin, AreWithin, has_corner, is_vertex}

corner_within : (n : ℕ) (c : Corners) (v : ℕ) → IsWithin n c → has_corner c v ≡ true → v < n
corner_within n c v w h = grind (arith, nat_tests)

-- each vertex is a point
pub vertex_within : (n : ℕ) (cells : List (Option Corners)) (v : ℕ) → AreWithin n cells → is_vertex cells v ≡ true → v < n
vertex_within n [] v a h = absurd (false≢true h)
vertex_within n (None ∷ cells) v a h = vertex_within n cells v (All-tail (λ cell. IfSome cell (IsWithin n)) None cells a) h
vertex_within n (Some c ∷ cells) v a h = by (has_corner c v) refl h (vertex_within n cells v (All-tail (λ cell. IfSome cell (IsWithin n)) (Some c) cells a))
  where
    by : (b : Bool) → has_corner c v ≡ b → (b || is_vertex cells v) ≡ true → (is_vertex cells v ≡ true → v < n) → v < n
    by true q h rest = corner_within n c v (All-head (λ cell. IfSome cell (IsWithin n)) (Some c) cells a) q
    by false q h rest = rest h
