use Rattle.std.proofs.Common.{arith, refl}
use Rattle.oct_text.proofs.PrintingLemmas.{list_spelling-none, list_spelling-all}
use Rattle.oct_text.proofs.printing.put_spaced.Goals as goal

pub returns-in_default-clause-ok : goal.returns-in_default-clause-ok
returns-in_default-clause-ok c = list_spelling-none c.args.out.now.items c.args.numbers.now c.in_default.len_below

pub returns-clause-ok : goal.returns-clause-ok
returns-clause-ok c =
    list_spelling-all c.loop-number.out.items c.args.out.now.items c.args.numbers.now _ c.loop-number.number-index (omega arith) refl (omega arith) c.loop-number.invariant
