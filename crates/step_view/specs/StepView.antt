-- What contracts see of a step.
use Rattle.std.specs.Prelude.{◌≡◌, ℕ, ◌≤◌, List, length}
use Rattle.mesh_base.specs.Place.{Place}
use Rattle.mesh_base.specs.Mesh.{MeshView}
use Rattle.topo.specs.Topology.{Topology, mesh_at}
use Rattle.run_script.specs.Jobs.{JobView, steps, step_at}

-- its number, its job, and its mesh
pub record StepView : Type 0 where
  pub number : ℕ
  pub job : JobView
  pub mesh : MeshView

-- step k of a job
abbrev pub step_of : JobView → ℕ → StepView
step_of job k = record { number = k; job = job; mesh = step_at job k }

-- the job has a step k, and this shape and these places are those of its mesh
pub record IsStepOf (job : JobView) (k : ℕ) (shape : Topology) (places : List Place) : Type 0 where
  pub few : k ≤ steps job
  pub mesh : mesh_at places shape ≡ step_at job k
  pub points : length places ≡ shape.points
