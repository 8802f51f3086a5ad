-- what a crawl has found
use Rattle.std.specs.Prelude.{◌≡◌, ℕ, ◌==◌, Bool, true, List, ◌++◌, length, count_by, Contains, if◌then◌else◌}
use Rattle.mesh_base.specs.Place.{Area}
use Rattle.mesh_base.specs.Mesh.{MeshView, are_neighbours}
use Rattle.mesh_base.specs.Scan.{scan}
use Rattle.box_crawl.specs.Marked.{is_marked}

-- what is marked stands in the list, once, and nothing else does
pub record IsTally (found : List ℕ) (marks : List Bool) : Type 0 where
  pub each : (v : ℕ) → count_by (λ x. x == v) found ≡ (if is_marked marks v then 1 else 0)
  pub all : length found ≡ count_by (λ b. b) marks

-- the list with more at its end, all of it neighbours of v inside
pub record IsMore (mesh : MeshView) (area : Area) (v : ℕ) (xs ys : List ℕ) : Type 0 where
  pub more : List ℕ
  pub is : ys ≡ xs ++ more
  pub only : (w : ℕ) → Contains more w → Contains (scan mesh area) w × (are_neighbours mesh.cells v w ≡ true)
