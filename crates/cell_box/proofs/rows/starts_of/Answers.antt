use Rattle.std.proofs.Common.{◌≡◌, ◌+◌, ◌-◌, ◌<◌, ◌≤◌, ◌++◌, [], length, take, drop, sym, ap, subst, ◌∙◌, arith}
use Rattle.cell_box.specs.Rows.{IsPlaced, corners_before, start_of}
use Rattle.cell_box.proofs.Placing.{back, placed_none, sum_starts, sums_few}
use Rattle.cell_box.proofs.rows.starts_of.Goals as goal

pub sum_up-total-requires-clause-few : goal.sum_up-total-requires-clause-few
sum_up-total-requires-clause-few c v lt =
    sums_few c.args.shape.now.cells c.count_all.new.starts v c.cells-cells.ensures.topology.few_cells c.count_all.ensures.counted lt
    (omega (arith, c.count_all.auto.starts, c.as_mut_slice-places.ensures.len, c.in_ok-starts.ensures.len, c.points-points.ensures.few))

pub returns-clause-total : goal.returns-clause-total
returns-clause-total c =
    let all = corners_before c.args.shape.now.cells (length c.args.shape.now.cells) in
    let counts = c.count_all.new.starts in
    let len : length counts ≡ c.args.shape.now.points + 1 = omega (arith, c.count_all.auto.starts, c.as_mut_slice-places.ensures.len, c.in_ok-starts.ensures.len) in
    let last : length counts - 1 ≡ c.args.shape.now.points = omega (arith, len) in
    c.sum_up-total.ensures.total ∙ sum_starts all counts (length counts - 1) c.count_all.ensures.counted (omega (arith, len)) ∙ ap (start_of all) last

pub returns-clause-placed : goal.returns-clause-placed
returns-clause-placed c numbers =
    let all = corners_before c.args.shape.now.cells (length c.args.shape.now.cells) in
    let counts = c.count_all.new.starts in
    let starts = c.sum_up-total.new.starts in
    let old = c.in_ok-starts.starts.items in
    let l = ap length c.as_mut_slice-places.ensures.value in
    let a : take c.in_ok-starts.starts.len (starts ++ drop (length starts) old) ≡ starts =
    back c.in_ok-starts.starts.len starts old (omega arith) (c.sum_up-total.auto.starts ∙ c.count_all.auto.starts ∙ l) in
    subst (λ s. IsPlaced all [] s numbers) (sym a)
    (placed_none all starts numbers (c.sum_up-total.ensures.first ∙ c.count_all.ensures.counted.first)
    (λ v lt. let m : v + 1 < length counts = omega (arith, lt, c.sum_up-total.auto.starts) in c.sum_up-total.ensures.sums v m ∙ sum_starts all counts v c.count_all.ensures.counted (omega arith)))
