use Rattle.box_watch.proofs.Steps.{below-next}
use Rattle.box_watch.proofs.difference.first_from.Goals as goal

pub loop-place-preserved : goal.loop-place-preserved
loop-place-preserved c = below-next c.args.numbers.now c.args.from c.loop-place.place c.args.x c.loop-place.invariant c.if-x-numbers.false
