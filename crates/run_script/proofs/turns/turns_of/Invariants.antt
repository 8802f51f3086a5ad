use Rattle.std.proofs.Common.{◌≡◌, drop}
use Rattle.run_script.specs.Jobs.{turns}
use Rattle.run_script.specs.Turns.{turns_with}
use Rattle.run_script.proofs.turns.turns_of.Given as goal

abbrev pub invariant-loop-item : goal.invariant-loop-item
invariant-loop-item l = turns_with l.turning (drop l.item-index l.items) ≡ turns l.items
