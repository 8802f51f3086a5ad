use Rattle.std.proofs.Common.{arith, rules, ◌≡◌, length, sym, ap, ◌∙◌}
use Rattle.std.proofs.lemmas.Bool.{true≢false}
use Rattle.run_script.specs.Jobs.{JobView, IsJob}
use Rattle.step_registry.specs.Core.{IsWhole}
use Rattle.step_table.specs.Seats.{new_session}
use Rattle.run_threads.proofs.Endings.{fresh_new, cut_short}
use Rattle.run_threads.proofs.run.play_job.Goals as goal

pub play_seats-publisher-requires-clause-new : goal.play_seats-publisher-requires-clause-new
play_seats-publisher-requires-clause-new g c κs within =
    let ej : c.in_ok-registry.registry.job ≡ c.deref.result.now = search rules in
    λ s d lt. fresh_new c.in_ok-table.table.lock c.deref.result.now s _ (let n = ap (λ (j : JobView). length j.sessions) ej in let m = c.in_ok-table.ensures.count.1 in omega arith)
    (c.in_ok-table.ensures.sessions s d lt ∙ ap (λ j. new_session c.in_ok-table.table.lock j s) ej)

pub returns : goal.returns
returns g c =
    let ej : c.finish-registry.result.job ≡ c.args.job = search rules in
    let en : c.deref.result.now ≡ c.args.job = search rules in
    let er : c.in_ok-registry.registry.job ≡ c.args.job = search rules in
    let fit : IsJob c.args.job = search rules in
    let not : IsWhole c.finish-registry.result.job c.finish-registry.result.journal → ⊥ = λ whole. true≢false (sym (c.is_whole.ensures.1 whole) ∙ c.if-is_whole.false) in (
      ej,
      cut_short c.in_ok-table.table.lock c.args.job c.deref.result.now c.finish-registry.result c.play_seats-publisher.result.1 ej en
          (c.play_seats-publisher.ensures.count ∙ (c.in_ok-table.ensures.count.1 ∙ ap (λ (j : JobView). length j.sessions) er))
          c.finish-registry.ensures.legal (c.finish-registry.ensures.front.1 ∙ c.play_seats-publisher.ensures.closed)
          c.play_seats-publisher.ensures.sessions c.finish-registry.ensures.sessions c.finish-registry.ensures.states fit not,
    )
