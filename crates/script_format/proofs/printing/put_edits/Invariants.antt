use Rattle.std.proofs.Common.{◌≡◌, ◌++◌, take}
use Rattle.std.specs.Prelude.{flat_map}
use Rattle.script_format.specs.Printed.{edit_line}
use Rattle.script_format.proofs.printing.put_edits.Given as goal

abbrev pub invariant-loop-edit : goal.invariant-loop-edit
invariant-loop-edit l = l.out.items ≡ l.fn.out.items ++ flat_map edit_line (take l.edit-index l.edits)
