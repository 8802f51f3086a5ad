-- how many positions an answer may read
use Rattle.std.specs.Prelude.{ℕ, ◌+◌, ◌==◌, List, length, sum_by, if◌then◌else◌}
use Rattle.mesh_base.specs.Place.{Area}
use Rattle.mesh_base.specs.Mesh.{MeshView, surface, vertices, degree}
use Rattle.mesh_base.specs.Answer.{walked, route}
use Rattle.mesh_base.specs.declared.answer.Route.{Route}
use Rattle.mesh_base.specs.declared.answer.Route.TheVariants.{Probe, Walk, Scan}

module _ (mesh : MeshView) (area : Area) where
  -- the sum of the degrees of these vertices
  abbrev pub degrees : List ℕ → ℕ
  degrees vs = sum_by (degree mesh) vs

  -- the reads after probe and walk: the degrees of the answered vertices, or one for each vertex
  abbrev pub last_reads : Route → List ℕ → ℕ
  last_reads Probe vs = degrees vs
  last_reads Walk vs = degrees vs
  last_reads Scan vs = length (vertices mesh)

  -- an answer of this list reads at most so many: the surface, the walk with its neighbours, and the last reads
  abbrev pub read_bound : List ℕ → ℕ
  read_bound vs =
      length (surface mesh)
      + (if length (walked mesh area) == 0 then 0 else 1 + degrees (walked mesh area))
      + last_reads (route mesh area) vs
