use Rattle.std.proofs.Common.{◌≡◌, ◌++◌, take}
use Rattle.std.specs.Prelude.{flat_map}
use Rattle.script_format.specs.Printed.{plan_spelling}
use Rattle.script_format.proofs.printing.put_plans.Given as goal

abbrev pub invariant-loop-plan : goal.invariant-loop-plan
invariant-loop-plan l = l.out.items ≡ l.fn.out.items ++ flat_map plan_spelling (take l.plan-index l.plans)
