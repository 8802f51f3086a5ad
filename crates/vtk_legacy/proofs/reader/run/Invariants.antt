use Rattle.std.proofs.Common.{length}
use Rattle.vtk_legacy.specs.Machine.{Keeps, SameText}
use Rattle.vtk_legacy.proofs.reader.run.Given as goal

abbrev pub invariant-loop : goal.invariant-loop
invariant-loop l = Keeps l.fn.stage l.fn.got l.fn.tokens l.stage l.got l.tokens × SameText l.fn.tokens l.tokens

abbrev pub decreases-loop : goal.decreases-loop
decreases-loop l = length l.tokens.bytes
