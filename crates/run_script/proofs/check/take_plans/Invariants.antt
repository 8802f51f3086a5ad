use Rattle.std.proofs.Common.{take}
use Rattle.mesh_base.specs.Mesh.{MeshView}
use Rattle.run_script.specs.Jobs.{edits_of}
use Rattle.run_script.specs.Checking.{Matches}
use Rattle.run_script.proofs.CheckLemmas.{Made}
use Rattle.run_script.proofs.check.take_plans.Given as goal

abbrev pub invariant-loop-plan : goal.invariant-loop-plan
invariant-loop-plan l = (mesh : MeshView) → Matches mesh l.fn.tally → Made mesh (edits_of (take l.plan-index l.plans)) l.tally
