-- What a check of edits keeps. What it finds is defined without it, in Jobs.
use Rattle.std.specs.Prelude.{◌≡◌, ℕ, List, map, length, Option, Some, None, Result, Ok, Err}
use Rattle.std.specs.Option.{is_some}
use Rattle.mesh_base.specs.Mesh.{MeshView}
use Rattle.mesh_base.specs.Edit.{edited}
use Rattle.mesh_base.specs.declared.edit.Edit.{Edit}
use Rattle.run_script.specs.declared.check.Tally.{Tally}
use Rattle.run_script.specs.declared.fault.ScriptFault.{ScriptFault}
use Rattle.run_script.specs.declared.fault.ScriptFault.TheVariants as errors
use Rattle.run_script.specs.declared.script.LinedEdit.{LinedEdit}
use Rattle.run_script.specs.Faults.{Fault, fault}
use Rattle.run_script.specs.Jobs.{edit_fault, edits_fault, all_edited, fault_on}

-- the number of points is that of the mesh, and so are the cells that are live
pub record Matches (mesh : MeshView) (tally : Tally) : Type 0 where
  pub points : tally.points ≡ length mesh.points
  pub live : tally.live.items ≡ map is_some mesh.cells

-- the fault that was found is this one, unless memory ran out
abbrev pub FaultsWith : ScriptFault → Option Fault → Type 0
FaultsWith errors.NoMemory found = Unit {0}
FaultsWith (errors.Bad kind line) found = found ≡ Some (fault kind line)

-- an edit on this line was made, or has a fault
abbrev pub TakesEdit : MeshView → ℕ → Edit → Result (Unit {0}) ScriptFault → Tally → Type 0
TakesEdit mesh line edit (Ok done) new = (edit_fault mesh edit ≡ None) × Matches (edited mesh edit) new
TakesEdit mesh line edit (Err e) new = FaultsWith e (fault_on line (edit_fault mesh edit))

-- edits were made, or the first fault was found
abbrev pub TakesEdits : MeshView → List LinedEdit → Result (Unit {0}) ScriptFault → Tally → Type 0
TakesEdits mesh edits (Ok done) new = (edits_fault mesh edits ≡ None) × Matches (all_edited mesh edits) new
TakesEdits mesh edits (Err e) new = FaultsWith e (edits_fault mesh edits)

-- no fault was found, or the first one
abbrev pub Finds : Option Fault → Result (Unit {0}) ScriptFault → Type 0
Finds found (Ok done) = found ≡ None
Finds found (Err e) = FaultsWith e found
