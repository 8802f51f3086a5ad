use Rattle.std.proofs.Common.{rules, arith, ◌≡◌, ℕ, ◌<◌, ◌∷◌, [], length, sym, subst, ap, ◌∙◌, slice_index_or}
use Rattle.std.specs.Arc.{arc_value}
use Rattle.run_script.specs.Jobs.{JobView}
use Rattle.step_view.specs.Rows.{SharesView}
use Rattle.step_table.specs.Seats.{SessionView, EachSession, new_session}
use Rattle.step_table.proofs.Trials.{second_is, both, ready_new}
use Rattle.step_table.proofs.tests.played.Goals as goal

pub five_calls-freed-requires-clause-first : goal.five_calls-freed-requires-clause-first
five_calls-freed-requires-clause-first g c =
    let t = c.in_ok-table.ensures in let lock = c.in_ok-table.table.lock in let whole = arc_value c.args.job in
    let job : c.in_ok-registry.registry.job ≡ whole = search rules in
    let made : c.make.new.self.job ≡ whole = search rules in
    let two : length c.in_ok-registry.registry.job.sessions ≡ 2 = ap (λ (j : JobView). length j.sessions) job ∙ c.requires.sessions in
    let long : length c.in_ok-table.seats ≡ 2 = t.count.1 ∙ two in
    let first : c.remove-first.result ≡ new_session lock c.in_ok-registry.registry.job 0 =
    c.remove-first.ensures.value ∙ (ap (λ l. slice_index_or l 0 c.remove-first.result) c.into_items-items.ensures ∙ t.sessions 0 c.remove-first.result (omega arith)) in
    let ready = ready_new lock c.in_ok-registry.registry.job whole 0 c.remove-first.result first job c.requires.asks.0 in (ready.0, ready.1 ∙ sym made)

pub five_calls-freed-requires-clause-second : goal.five_calls-freed-requires-clause-second
five_calls-freed-requires-clause-second g c =
    let t = c.in_ok-table.ensures in let lock = c.in_ok-table.table.lock in let whole = arc_value c.args.job in
    let job : c.in_ok-registry.registry.job ≡ whole = search rules in
    let made : c.make.new.self.job ≡ whole = search rules in
    let two : length c.in_ok-registry.registry.job.sessions ≡ 2 = ap (λ (j : JobView). length j.sessions) job ∙ c.requires.sessions in
    let long : length c.in_ok-table.seats ≡ 2 = t.count.1 ∙ two in
    let second : c.remove-second.result ≡ new_session lock c.in_ok-registry.registry.job 1 =
    c.remove-second.ensures.value ∙ (ap (λ l. slice_index_or l 0 c.remove-second.result) (c.remove-first.ensures.items) ∙ (second_is c.into_items-items.result.items c.remove-second.result
    ∙ (ap (λ l. slice_index_or l 1 c.remove-second.result) c.into_items-items.ensures ∙ t.sessions 1 c.remove-second.result (omega arith)))) in
    let ready = ready_new lock c.in_ok-registry.registry.job whole 1 c.remove-second.result second job c.requires.asks.1 in (ready.0, ready.1 ∙ sym made)

pub finish-requires-clause-sessions : goal.finish-requires-clause-sessions
finish-requires-clause-sessions g c =
    let t = c.in_ok-table.ensures in let lock = c.in_ok-table.table.lock in let whole = arc_value c.args.job in
    let job : c.in_ok-registry.registry.job ≡ whole = search rules in
    let made : c.make.new.self.job ≡ whole = search rules in
    let two : length c.in_ok-registry.registry.job.sessions ≡ 2 = ap (λ (j : JobView). length j.sessions) job ∙ c.requires.sessions in
    let long : length c.in_ok-table.seats ≡ 2 = t.count.1 ∙ two in
    let first : c.remove-first.result ≡ new_session lock c.in_ok-registry.registry.job 0 =
    c.remove-first.ensures.value ∙ (ap (λ l. slice_index_or l 0 c.remove-first.result) c.into_items-items.ensures ∙ t.sessions 0 c.remove-first.result (omega arith)) in
    let second : c.remove-second.result ≡ new_session lock c.in_ok-registry.registry.job 1 =
    c.remove-second.ensures.value ∙ (ap (λ l. slice_index_or l 0 c.remove-second.result) (c.remove-first.ensures.items) ∙ (second_is c.into_items-items.result.items c.remove-second.result
    ∙ (ap (λ l. slice_index_or l 1 c.remove-second.result) c.into_items-items.ensures ∙ t.sessions 1 c.remove-second.result (omega arith)))) in
    let f = c.five_calls-freed.new.first in let s = c.five_calls-freed.new.second in
    let all : c.of.result ≡ f ∷ s ∷ [] = search rules in
    subst (EachSession (λ n v. (v.table ≡ lock) × (v.session ≡ n))) (sym all)
    (both (λ n v. (v.table ≡ lock) × (v.session ≡ n)) f s
    (c.five_calls-freed.ensures.first.0, c.five_calls-freed.ensures.first.1 ∙ ap (λ (v : SessionView). v.session) first)
    (c.five_calls-freed.ensures.second.0, c.five_calls-freed.ensures.second.1 ∙ ap (λ (v : SessionView). v.session) second))
