use Rattle.std.proofs.Common.{arith, ◌≡◌, ◌+◌, ◌<◌, length, sym, subst, ap, ◌∙◌}
use Rattle.step_view.specs.StepView.{StepView}
use Rattle.run_script.specs.Jobs.{JobView, turns_of, box_count}
use Rattle.step_registry.specs.Core.{turn_at}
use Rattle.step_registry.specs.Runs.{answer_at}
use Rattle.step_registry.proofs.Drives.{turn_within, turn_more}
use Rattle.step_registry.proofs.drive.answer_turn.Goals as goal

pub answer-requires-clause-asked : goal.answer-requires-clause-asked
answer-requires-clause-asked g c =
    let job = g.W.Work.job c.args.work.now in let s = c.args.pin.now.session in
    let own : c.deref.result.now ≡ job = c.deref.ensures ∙ (c.job.ensures.job ∙ (ap (λ (v : StepView). v.job) c.step.ensures ∙ c.requires.of_job)) in
    let count : c.boxes_at-count.result ≡ length (turn_at job s c.args.turn).areas = c.boxes_at-count.ensures.count ∙ (ap (λ (j : JobView). length (turn_at j c.session.result c.args.turn).areas) own ∙ ap (λ n. length (turn_at job n c.args.turn).areas) c.session.ensures) in
    let within = turn_within (turns_of job s) c.args.turn c.requires.turn in let first = c.requires.first in let here = c.loop-i-test.true in
    let room : c.args.first + c.loop-i.i < box_count (turns_of job s) = omega arith in
    subst (λ (j : JobView). c.args.first + c.loop-i.i < box_count (turns_of j s)) (sym c.loop-i.invariant.0) room

pub loop-i-preserved : goal.loop-i-preserved
loop-i-preserved g c =
    let job = g.W.Work.job c.args.work.now in let s = c.args.pin.now.session in
    let own : c.deref.result.now ≡ job = c.deref.ensures ∙ (c.job.ensures.job ∙ (ap (λ (v : StepView). v.job) c.step.ensures ∙ c.requires.of_job)) in
    let count : c.boxes_at-count.result ≡ length (turn_at job s c.args.turn).areas = c.boxes_at-count.ensures.count ∙ (ap (λ (j : JobView). length (turn_at j c.session.result c.args.turn).areas) own ∙ ap (λ n. length (turn_at job n c.args.turn).areas) c.session.ensures) in
    let inv = c.loop-i.invariant in (
      c.answer.ensures.same ∙ inv.0,
      c.answer.ensures.stays ∙ inv.1,
      turn_more job s c.args.turn c.args.pin.now.step.number c.args.first c.loop-i.i c.loop-i.list.items c.push.new.self.items c.in_ok-answer.field-0 c.requires.turn c.requires.first (subst (λ n. c.loop-i.i < n) count c.loop-i-test.true) inv.2
          (c.in_ok-answer.ensures.answer ∙ ap (λ (j : JobView). answer_at j s (c.args.first + c.loop-i.i) c.args.pin.now.step.number) inv.0)
          c.in_ok-push.ensures.items,
    )
