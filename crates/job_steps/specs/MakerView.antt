-- What contracts see of a maker, and what it keeps.
use Rattle.std.specs.Prelude.{◌≡◌, ℕ, ◌≤◌, Bool, false, List, All}
use Rattle.mesh_base.specs.Place.{Place, IsPlace}
use Rattle.topo.specs.Topology.{Topology}
use Rattle.run_script.specs.Jobs.{JobView, IsJob, steps}
use Rattle.step_view.specs.StepView.{IsStepOf}

-- its job, the number of the last step made, and whether memory was refused once, after which it makes no step more
pub record MakerView : Type 0 where
  pub job : JobView
  pub made : ℕ
  pub lost : Bool

-- the maker that has made this step of the job last
abbrev pub maker_at : JobView → ℕ → MakerView
maker_at job k = record { job = job; made = k; lost = false }

-- the topology and the places are those of the last step made, unless the maker is lost
pub record IsMaker (maker : MakerView) (topology : Topology) (places : List Place) : Type 0 where
  pub job : IsJob maker.job
  pub few : maker.made ≤ steps maker.job
  pub now : maker.lost ≡ false → IsStepOf maker.job maker.made topology places
  pub in_range : All IsPlace places
