use Rattle.std.proofs.Common.{arith, ◌≡◌, ◌+◌, ◌∙◌, ap, length}
use Rattle.step_view.specs.StepView.{step_of}
use Rattle.step_view.proofs.RowLaws.{longer, is_row, seen, shares}
use Rattle.step_view.proofs.shares.Shares.make.Goals as goal

pub invariant_of-result : goal.invariant_of-result
invariant_of-result c = is_row c.loop-session._session c.args.step c.push-2.new.self.items
    (c.push-2.ensures.items ∙ longer c.loop-session._session c.args.step c.loop-session.row.items c.loop-session.invariant)
    (omega (arith, c.sessions-session-end.ensures.valid.few_sessions, c.loop-session.auto))

pub returns : goal.returns
returns c =
    let job = c.deref.ensures ∙ c.job.ensures.job in
    let count : c.loop-session._session + 1 ≡ length c.args.step.job.sessions + 1 = omega (arith, ap (λ j. length j.sessions) job, c.sessions-session-end.ensures.sessions, c.loop-session.auto, c.loop-session-test.false) in
    seen c.loop-session._session c.args.step c.push-2.new.self.items
    (c.push-2.ensures.items ∙ longer c.loop-session._session c.args.step c.loop-session.row.items c.loop-session.invariant)
    ∙ ap (λ s. shares s (c.loop-session._session + 1)) c.job.ensures.step ∙ ap (shares (step_of c.args.step.job c.args.step.number)) count
