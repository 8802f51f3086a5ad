use Rattle.std.proofs.Common.{◌≡◌, ℕ, ◌+◌, ◌-◌, ◌<◌, ◌≤◌, ◌++◌, ◌∷◌, [], length, get_or, map, set, take, sym, ap, subst, arith}
use Rattle.cell_box.specs.Rows.{IsPlaced, corners_before, start_of, row_of}
use Rattle.cell_box.proofs.RowLaws.{start_after}
use Rattle.cell_box.proofs.Placing.{array_within, corners_absent, corners_more, corners_split, room_for, placed_more}
use Rattle.cell_box.proofs.rows.place_cell.Goals as goal

pub bounds-numbers-end : goal.bounds-numbers-end
bounds-numbers-end c =
    let vs = c.corners-v-items.result in
    let k = c.loop-v.v-index in
    let i = c.args.i in
    let v = get_or vs k 0 in
    let cells = c.args.shape.now.cells in
    let all = corners_before cells (length cells) in
    let within = array_within (length c.args.starts.now) cells i k c.in-Some.cell vs c.requires.within c.requires.cell c.in-Some.ensures c.corners-v-items.ensures.corners c.loop-v-test.true in
    let lt : v + 1 < length c.loop-v.starts = omega (arith, within, c.loop-v.auto.starts) in
    let split = corners_split cells i k c.in-Some.cell vs c.requires.cell c.in-Some.ensures c.corners-v-items.ensures.corners c.loop-v-test.true in
    let room = room_for all (corners_before cells i ++ map (λ v. (v, i)) (take k vs)) split.0 c.loop-v.starts c.loop-v.numbers v i c.loop-v.invariant split.1 lt in
    let after = start_after all v (length c.args.starts.now - 1) (omega (arith, within)) in
    omega (arith, room, after, c.requires.room, c.loop-v.auto.numbers)

pub offset_bounds-numbers-end : goal.offset_bounds-numbers-end
offset_bounds-numbers-end c = let b = bounds-numbers-end c in omega (arith, b)

pub overflow_add-starts : goal.overflow_add-starts
overflow_add-starts c = let b = bounds-numbers-end c in omega (arith, b)

pub loop-v-preserved : goal.loop-v-preserved
loop-v-preserved c =
    let vs = c.corners-v-items.result in
    let k = c.loop-v.v-index in
    let i = c.args.i in
    let v = get_or vs k 0 in
    let cells = c.args.shape.now.cells in
    let all = corners_before cells (length cells) in
    let at = get_or c.loop-v.starts (v + 1) 0 in
    let len = ap length c.corners-v-items.ensures.corners in
    let within = array_within (length c.args.starts.now) cells i k c.in-Some.cell vs c.requires.within c.requires.cell c.in-Some.ensures c.corners-v-items.ensures.corners c.loop-v-test.true in
    let lt : v + 1 < length c.loop-v.starts = omega (arith, within, c.loop-v.auto.starts) in
    let few : k < length vs = omega (arith, len, c.loop-v-test.true) in
    let split = corners_split cells i k c.in-Some.cell vs c.requires.cell c.in-Some.ensures c.corners-v-items.ensures.corners c.loop-v-test.true in
    subst (λ l. IsPlaced all l (set c.loop-v.starts (v + 1) (at + 1)) (set c.loop-v.numbers at i)) (sym (corners_more (corners_before cells i) vs i k few))
    (placed_more all (corners_before cells i ++ map (λ v. (v, i)) (take k vs)) split.0 c.loop-v.starts c.loop-v.numbers v i c.loop-v.invariant split.1 lt (bounds-numbers-end c))

pub returns-in_default : goal.returns-in_default
returns-in_default c =
    let cells = c.args.shape.now.cells in
    let e = corners_absent cells c.args.i c.cell.result c.requires.cell c.cell.ensures c.in_default.is in
    record { placed = subst (λ done. IsPlaced (corners_before cells (length cells)) done c.args.starts.now c.args.numbers.now) e c.requires.placed }
