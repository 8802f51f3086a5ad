use Rattle.std.proofs.Common.{ℕ, ◌+◌, ◌<◌, ◌++◌, length, get_or, map, set, take, refl, sym, ap, subst, arith}
use Rattle.cell_box.specs.Rows.{IsCounted, corners_before}
use Rattle.cell_box.proofs.Placing.{array_within, corners_absent, corners_more, counted_few, counted_more}
use Rattle.cell_box.proofs.rows.count_cell.Goals as goal

pub overflow_add-starts-in-loop-v : goal.overflow_add-starts-in-loop-v
overflow_add-starts-in-loop-v c =
    let vs = c.corners-v-items.result in
    let k = c.loop-v.v-index in
    let within = array_within (length c.args.starts.now) c.args.shape.now.cells c.args.i k c.in-Some.cell vs c.requires.within c.requires.cell c.in-Some.ensures c.corners-v-items.ensures.corners c.loop-v-test.true in
    let e = c.loop-v.invariant.each (get_or vs k 0) (omega (arith, within, c.loop-v.auto.starts)) in
    let f = counted_few c.args.shape.now.cells c.args.i k (get_or vs k 0) vs (omega arith) in
    omega (arith, e, f, c.requires.few, c.requires.cell)

pub loop-v-preserved : goal.loop-v-preserved
loop-v-preserved c =
    let vs = c.corners-v-items.result in
    let k = c.loop-v.v-index in
    let i = c.args.i in
    let v = get_or vs k 0 in
    let n = get_or c.loop-v.starts (v + 1) 0 + 1 in
    let len = ap length c.corners-v-items.ensures.corners in
    let within = array_within (length c.args.starts.now) c.args.shape.now.cells i k c.in-Some.cell vs c.requires.within c.requires.cell c.in-Some.ensures c.corners-v-items.ensures.corners c.loop-v-test.true in
    let lt : v + 1 < length c.loop-v.starts = omega (arith, within, c.loop-v.auto.starts) in
    let few : k < length vs = omega (arith, len, c.loop-v-test.true) in
    subst (λ l. IsCounted l (set c.loop-v.starts (v + 1) n)) (sym (corners_more (corners_before c.args.shape.now.cells i) vs i k few))
    (counted_more (corners_before c.args.shape.now.cells i ++ map (λ v. (v, i)) (take k vs)) c.loop-v.starts v i n c.loop-v.invariant lt refl)

pub returns-in_default : goal.returns-in_default
returns-in_default c =
    let e = corners_absent c.args.shape.now.cells c.args.i c.cell.result c.requires.cell c.cell.ensures c.in_default.is in
    record { counted = subst (λ done. IsCounted done c.args.starts.now) e c.requires.counted }
