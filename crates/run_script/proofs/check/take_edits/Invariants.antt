use Rattle.std.proofs.Common.{take}
use Rattle.mesh_base.specs.Mesh.{MeshView}
use Rattle.run_script.specs.Checking.{Matches}
use Rattle.run_script.proofs.CheckLemmas.{Made}
use Rattle.run_script.proofs.check.take_edits.Given as goal

abbrev pub invariant-loop-edit : goal.invariant-loop-edit
invariant-loop-edit l = (mesh : MeshView) → Matches mesh l.fn.tally → Made mesh (take l.edit-index l.edits) l.tally
