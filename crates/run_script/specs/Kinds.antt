-- The names of the kinds of faults.
use Rattle.std.specs.Prelude.{ℕ, List, codes}
use Rattle.run_script.specs.declared.fault.ScriptKind.{ScriptKind}
use Rattle.run_script.specs.declared.fault.ScriptKind.TheVariants as kinds

-- the name of a kind, as refusals print it
abbrev pub name_of : ScriptKind → List ℕ
name_of kinds.Header = codes "Header"
name_of kinds.Word = codes "Word"
name_of kinds.Number = codes "Number"
name_of kinds.Range = codes "Range"
name_of kinds.Box = codes "Box"
name_of kinds.Order = codes "Order"
name_of kinds.Limit = codes "Limit"
name_of kinds.Truncated = codes "Truncated"
name_of kinds.NoPoint = codes "NoPoint"
name_of kinds.NoCell = codes "NoCell"
name_of kinds.SameVertex = codes "SameVertex"
name_of kinds.NoStep = codes "NoStep"
