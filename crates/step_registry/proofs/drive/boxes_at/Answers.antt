use Rattle.std.proofs.Common.{arith, ◌≡◌, ◌≤◌, length, sym, subst, ap, ◌∙◌, slice_index_or}
use Rattle.run_script.specs.Jobs.{turns_of, box_count}
use Rattle.run_script.specs.declared.job.SessionTurn.{SessionTurn}
use Rattle.step_registry.specs.Core.{no_turn, turn_at}
use Rattle.step_registry.specs.Runs.{turn-any}
use Rattle.step_registry.proofs.Drives.{turn_within}
use Rattle.step_registry.proofs.drive.boxes_at.Goals as goal

pub returns : goal.returns
returns c =
    let ts = turns_of c.args.job.now c.args.s in
    let here : c.index-turns-t.result ≡ turn_at c.args.job.now c.args.s c.args.t =
    c.index-turns-t.is ∙ (ap (λ l. slice_index_or l c.args.t c.index-turns-t.result) c.turns.ensures.turns ∙ turn-any ts c.args.t c.index-turns-t.result no_turn c.requires.turn) in
    let count : length c.items.result.now ≡ length (turn_at c.args.job.now c.args.s c.args.t).areas = ap length c.items.ensures ∙ ap (λ (t : SessionTurn). length t.areas) (sym c.index-turns-t.is ∙ here) in
    let within = turn_within ts c.args.t c.requires.turn in
    let few : box_count ts ≤ 100000 = subst (λ l. box_count l ≤ 100000) c.turns.ensures.turns c.turns.ensures.few_boxes in
    record { count = count; few = omega arith }
