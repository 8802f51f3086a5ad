use Rattle.std.proofs.Common.{sym, ◌∙◌}
use Rattle.std.proofs.lemmas.Result.{err_from_is_err_and}
use Rattle.oct_text.specs.Taken.{token_taken}
use Rattle.vtk_legacy.specs.Machine.{taking}
use Rattle.vtk_legacy.proofs.TypeLemmas.{type_err, type_other, type_twins}
use Rattle.vtk_legacy.proofs.types.type_step.Goals as goal

pub returns-in_err-type_at : goal.returns-in_err-type_at
unfolding taking
returns-in_err-type_at c =
    let p = err_from_is_err_and c.from_residual.result c.from_residual.ensures.1 in
    rw (p.1, p.2) (λ after. type_err c.args.more c.args.got.now c.first_size.result (token_taken c.args.place c.args.text.now, after) _ c.first_size.ensures (c.in_err-type_at.ensures after))

pub returns-then-branch-ne10 : goal.returns-then-branch-ne10
unfolding taking
returns-then-branch-ne10 c after =
    rw c.skip_first.ensures
    (type_other c.args.more c.args.got.now c.first_size.result (token_taken c.args.place c.args.text.now, after) _ c.first_size.ensures (c.in_ok-type_at.ensures after) c.if-branch-ne10.true ∙ sym (c.types_left.ensures _ after))

pub returns-then-not-keep_first : goal.returns-then-not-keep_first
unfolding taking
returns-then-not-keep_first c =
    let left = c.keep_first.ensures.no c.if-not-keep_first.true in
    rw c.fault.ensures
    (λ after. type_twins c.args.more c.args.got.now c.first_size.result (token_taken c.args.place c.args.text.now, after) _ c.first_size.ensures (c.in_ok-type_at.ensures after) c.if-branch-ne10.false left.1)
