use Rattle.std.proofs.Common.{◌≡◌, ◌++◌, take, get_or}
use Rattle.std.specs.Prelude.{decimal}
use Rattle.std.specs.List.{flat_map}
use Rattle.oct_text.proofs.PrintingLemmas.{spaced}
use Rattle.oct_text.proofs.printing.put_spaced.Given as goal

abbrev pub invariant-loop-number : goal.invariant-loop-number
invariant-loop-number l = l.out.items ≡ l.fn.out.items ++ (decimal (get_or l.numbers 0 0) ++ flat_map spaced (take l.number-index l.rest))
