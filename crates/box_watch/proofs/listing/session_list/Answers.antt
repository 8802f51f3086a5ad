use Rattle.std.proofs.Common.{◌≡◌, length, sym, ap, ◌∙◌, subst}
use Rattle.std.specs.Prelude.{All, IfOk}
use Rattle.std.specs.List.Sorted.{IsStrictlyIncreasing}
use Rattle.mesh_base.specs.declared.answer.Answer.{Answer}
use Rattle.report.proofs.Written.{listed-is}
use Rattle.box_watch.specs.Own.{own_answers}
use Rattle.box_watch.specs.Watches.{boxes_of, watches_by, session_watches}
use Rattle.box_watch.proofs.Answered.{answers-ascend, own-count}
use Rattle.box_watch.proofs.listing.session_list.Goals as goal

pub list_session-requires-clause-ascending : goal.list_session-requires-clause-ascending
list_session-requires-clause-ascending c =
    subst (All (λ (a : Answer). IsStrictlyIncreasing a.vertices)) (sym c.answers.ensures.value) (answers-ascend c.args.registry.now.job c.args.registry.now.journal)

pub list_session-requires-clause-answered : goal.list_session-requires-clause-answered
list_session-requires-clause-answered c =
    let job = c.args.registry.now.job in let h = c.args.registry.now.journal in let s = c.args.session in
    ap (λ a. length (own_answers s a)) c.answers.ensures.value ∙ (own-count job h s c.requires.whole c.requires.there ∙ ap (λ j. length (boxes_of j s)) (sym (c.deref.ensures ∙ c.job.ensures)))

pub returns : goal.returns
returns c =
    let job = c.args.registry.now.job in let h = c.args.registry.now.journal in let s = c.args.session in
    let whole : watches_by s (boxes_of c.deref.result.now s) (own_answers s c.answers.result.now) ≡ session_watches job h s =
    ap (λ j. watches_by s (boxes_of j s) (own_answers s c.answers.result.now)) (c.deref.ensures ∙ c.job.ensures)
    ∙ (ap (λ a. watches_by s (boxes_of job s) (own_answers s a)) c.answers.ensures.value ∙ ap (watches_by s (boxes_of job s)) (listed-is job h s c.requires.there)) in
    subst (λ t. IfOk c.list_session.result (λ list. list.items ≡ t)) whole c.list_session.ensures
