use Rattle.std.proofs.Common.{rules, ◌≡◌, ◌≤◌, length, sym, ap, subst, ◌∙◌}
use Rattle.run_script.specs.Jobs.{turns_of, box_count}
use Rattle.step_registry.specs.Core.{no_turn}
use Rattle.run_script.specs.declared.job.SessionTurn.{SessionTurn}
use Rattle.step_registry.specs.Core.{first_query}
use Rattle.step_registry.specs.Runs.{turn-any}
use Rattle.run_threads.proofs.Turns.{turn_fits}
use Rattle.run_threads.proofs.session.ask_all.Goals as goal

pub ask_turn-requires-clause-few : goal.ask_turn-requires-clause-few
ask_turn-requires-clause-few g c κs within =
    let turns = c.turns-turns.result.now in let t = c.loop-turn.turn-index in
    let are : turns ≡ turns_of c.args.job.now c.args.seat.now.session = search rules in
    turn_fits turns t c.loop-turn.first (length c.turn-item.result.areas) c.loop-turn-test.true
    (c.loop-turn.invariant.2 ∙ ap (λ l. first_query l t) (sym are))
    (ap (λ (x : SessionTurn). length x.areas) (c.turn-item.is ∙ turn-any turns t c.turn-item.result no_turn c.loop-turn-test.true))
    c.turns-turns.ensures.few_boxes
