use Rattle.face_table.proofs.KnownLemmas.{found_nowhere}
use Rattle.face_table.proofs.known.find_between.Goals as goal

pub returns : goal.returns
returns c = found_nowhere c.args.known.now.items c.args.face.now c.loop-low.low c.loop-low.high c.loop-low-test.false c.loop-low.invariant
