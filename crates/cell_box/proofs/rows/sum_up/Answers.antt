use Rattle.std.proofs.Common.{arith, add-one, ◌+◌}
use Rattle.cell_box.proofs.rows.sum_up.Goals as goal

pub overflow_add-total : goal.overflow_add-total
overflow_add-total c =
    let few = rw add-one at (c.requires.few (c.loop-v.v + 1) (omega arith)) in
    let r = c.loop-v.invariant.rest (c.loop-v.v + 1) (omega arith) in
    omega (arith, few, r, c.loop-v.invariant.total)
