use Rattle.std.proofs.Common.{◌≡◌, ℕ, ◌+◌, ◌<◌, [], length, get_or, take, sum_by, sym, ap, ◌∙◌, arith}
use Rattle.std.proofs.lemmas.List.{take_all}
use Rattle.std.proofs.lemmas.List.Elements.{Contains-get_or}
use Rattle.std.proofs.lemmas.List.Sums.{sum_by_more}
use Rattle.cell_box.specs.Often.{times}
use Rattle.cell_box.proofs.Totals.{times-append}
use Rattle.cell_box.proofs.select.gather.Goals as goal

pub cells_at-requires : goal.cells_at-requires
cells_at-requires c =
    let xs = c.args.inside.now in
    let k = c.loop-v.v-index in
    let lt : k < length xs = omega arith in
    c.requires.points (get_or xs k 0) (Contains-get_or xs k 0 lt)

pub loop-v-preserved : goal.loop-v-preserved
loop-v-preserved c i =
    let xs = c.args.inside.now in
    let k = c.loop-v.v-index in
    let lt : k < length xs = omega arith in
    let old = c.loop-v.found.items in
    let row = c.cells_at.result.now in
    let f = λ (v : ℕ). times (get_or c.args.incidence.now v []) i in
    ap (λ l. times l i) c.in_ok-extend_from_slice.ensures.items ∙ times-append old row i
    ∙ ap (λ n. n + times row i) (c.loop-v.invariant i) ∙ ap (λ l. sum_by f (take k xs) + times l i) c.cells_at.ensures.row
    ∙ sym (sum_by_more f xs k 0 lt)

pub returns : goal.returns
returns c i = c.loop-v.invariant i ∙ ap (sum_by (λ v. times (get_or c.args.incidence.now v []) i)) (take_all c.loop-v.v-index c.args.inside.now (omega arith))
