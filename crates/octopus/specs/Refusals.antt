-- Why the program refuses: the status and the line of each refusal.
use Rattle.std.specs.Prelude.{ℕ, List}
use Rattle.vtk_legacy.specs.declared.fault.MeshFault.{MeshFault}
use Rattle.vtk_legacy.specs.declared.fault.MeshFault.TheVariants as meshes
use Rattle.run_script.specs.declared.fault.ScriptFault.{ScriptFault}
use Rattle.run_script.specs.declared.fault.ScriptFault.TheVariants as scripts
use Rattle.octopus.specs.declared.status.Status.{Status}
use Rattle.octopus.specs.declared.status.Status.TheVariants as statuses
use Rattle.octopus.specs.declared.refusal.Refusal.{Refusal}
use Rattle.octopus.specs.declared.refusal.Refusal.TheVariants.{Usage, LongMesh, Mesh, LongScript, Script, NoStep}
use Rattle.octopus.specs.declared.outcome.Early.{Early}
use Rattle.octopus.specs.declared.outcome.Early.TheVariants.{Memory, Refused}
use Rattle.octopus.specs.Lines.{usage_line, long_mesh_line, mesh_line, long_script_line, script_line, no_step_line}

abbrev pub status_of_refusal : Refusal → Status
status_of_refusal Usage = statuses.Usage
status_of_refusal LongMesh = statuses.TooLong
status_of_refusal (Mesh kind place) = statuses.BadMesh
status_of_refusal LongScript = statuses.TooLong
status_of_refusal (Script kind place) = statuses.BadScript
status_of_refusal (NoStep step last) = statuses.NoStep

abbrev pub refusal_line : Refusal → List ℕ
refusal_line Usage = usage_line
refusal_line LongMesh = long_mesh_line
refusal_line (Mesh kind place) = mesh_line kind place
refusal_line LongScript = long_script_line
refusal_line (Script kind place) = script_line kind place
refusal_line (NoStep step last) = no_step_line step last

-- how a command ends where a reader finds a fault
abbrev pub early_of_mesh : MeshFault → Early
early_of_mesh meshes.NoMemory = Memory
early_of_mesh (meshes.Bad kind place) = Refused (Mesh kind place)

abbrev pub early_of_script : ScriptFault → Early
early_of_script scripts.NoMemory = Memory
early_of_script (scripts.Bad kind place) = Refused (Script kind place)
