use Rattle.std.proofs.Common.{◌≡◌, ℕ, ◌+◌, ◌-◌, ◌<◌, ◌≤◌, ◌++◌, List, [], length, get_or, take, drop, vec_len, sym, ap, subst, ◌∙◌, arith}
use Rattle.cell_box.specs.Cells.{rows_of}
use Rattle.cell_box.specs.Rows.{IsPlaced, corners_before, start_of, rows_between, AreRows}
use Rattle.cell_box.proofs.Placing.{back, rows_placed, rows_are}
use Rattle.cell_box.proofs.incidence.Incidence.of.Goals as goal

pub place_all-requires-clause-points : goal.place_all-requires-clause-points
place_all-requires-clause-points c = let l = ap length c.deref_mut.ensures.value in omega (arith, l, c.in_ok-starts.ensures.len)

pub place_all-requires-clause-room : goal.place_all-requires-clause-room
place_all-requires-clause-room c =
    let l = ap length c.deref_mut.ensures.value in
    let e : c.args.shape.now.points ≡ length c.deref_mut.result.now - 1 = omega (arith, l, c.in_ok-starts.ensures.len) in
    c.deref_mut-2.ensures.len ∙ c.in_ok-numbers.ensures.len ∙ c.in_ok-starts.ensures.total ∙ ap (start_of (corners_before c.args.shape.now.cells (length c.args.shape.now.cells))) e

pub place_all-requires-clause-placed : goal.place_all-requires-clause-placed
place_all-requires-clause-placed c =
    subst (λ s. IsPlaced (corners_before c.args.shape.now.cells (length c.args.shape.now.cells)) [] s c.deref_mut-2.result.now) (sym c.deref_mut.ensures.value) (c.in_ok-starts.ensures.placed c.deref_mut-2.result.now)

pub invariant_of-result : goal.invariant_of-result
invariant_of-result c =
    let all = corners_before c.args.shape.now.cells (length c.args.shape.now.cells) in
    let starts = c.place_all.new.starts in
    let numbers = c.place_all.new.numbers in
    let l = ap length c.deref_mut.ensures.value in
    let m = ap length c.deref_mut-2.ensures.value in
    let len : length starts ≡ c.args.shape.now.points + 1 = omega (arith, l, c.in_ok-starts.ensures.len, c.place_all.auto.starts) in
    let last : c.args.shape.now.points ≡ length starts - 1 = omega (arith, len) in
    let room : length numbers ≡ start_of all (length starts - 1) = c.place_all.auto.numbers ∙ c.deref_mut-2.ensures.len ∙ c.in_ok-numbers.ensures.len ∙ c.in_ok-starts.ensures.total ∙ ap (start_of all) last in
    let a : take c.in_ok-starts.starts.len (starts ++ drop (length starts) c.in_ok-starts.starts.items) ≡ starts =
    back c.in_ok-starts.starts.len starts c.in_ok-starts.starts.items (omega arith) (c.place_all.auto.starts ∙ l) in
    let b : take c.in_ok-numbers.numbers.len (numbers ++ drop (length numbers) c.in_ok-numbers.numbers.items) ≡ numbers =
    back c.in_ok-numbers.numbers.len numbers c.in_ok-numbers.numbers.items (omega arith) (c.place_all.auto.numbers ∙ m) in
    subst (λ s. AreRows s (take c.in_ok-numbers.numbers.len (numbers ++ drop (length numbers) c.in_ok-numbers.numbers.items))) (sym a)
    (subst (λ n. AreRows starts n) (sym b) (rows_placed all starts numbers (omega (arith, len)) (omega (arith, len, c.cells-cells.ensures.topology.few_points)) room c.place_all.ensures.placed))

pub returns : goal.returns
returns c =
    let all = corners_before c.args.shape.now.cells (length c.args.shape.now.cells) in
    let starts = c.place_all.new.starts in
    let numbers = c.place_all.new.numbers in
    let l = ap length c.deref_mut.ensures.value in
    let m = ap length c.deref_mut-2.ensures.value in
    let len : length starts ≡ c.args.shape.now.points + 1 = omega (arith, l, c.in_ok-starts.ensures.len, c.place_all.auto.starts) in
    let last : c.args.shape.now.points ≡ length starts - 1 = omega (arith, len) in
    let room : length numbers ≡ start_of all (length starts - 1) = c.place_all.auto.numbers ∙ c.deref_mut-2.ensures.len ∙ c.in_ok-numbers.ensures.len ∙ c.in_ok-starts.ensures.total ∙ ap (start_of all) last in
    let a : take c.in_ok-starts.starts.len (starts ++ drop (length starts) c.in_ok-starts.starts.items) ≡ starts =
    back c.in_ok-starts.starts.len starts c.in_ok-starts.starts.items (omega arith) (c.place_all.auto.starts ∙ l) in
    let b : take c.in_ok-numbers.numbers.len (numbers ++ drop (length numbers) c.in_ok-numbers.numbers.items) ≡ numbers =
    back c.in_ok-numbers.numbers.len numbers c.in_ok-numbers.numbers.items (omega arith) (c.place_all.auto.numbers ∙ m) in
    subst (λ s. rows_between s (take c.in_ok-numbers.numbers.len (numbers ++ drop (length numbers) c.in_ok-numbers.numbers.items)) ≡ rows_of c.args.shape.now.points c.args.shape.now.cells) (sym a)
    (subst (λ n. rows_between starts n ≡ rows_of c.args.shape.now.points c.args.shape.now.cells) (sym b) (rows_are c.args.shape.now.points c.args.shape.now.cells starts numbers c.cells-cells.ensures.topology.different len room c.place_all.ensures.placed))
