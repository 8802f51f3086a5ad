use Rattle.std.proofs.Common.{◌≡◌, ◌++◌}
use Rattle.octopus.specs.Rings.{rings_part}
use Rattle.octopus.proofs.commands.rings.put_rings.Given as goal

abbrev pub invariant-loop-number : goal.invariant-loop-number
invariant-loop-number l = l.out.items ≡ l.fn.out.items ++ rings_part l.rings l.number
