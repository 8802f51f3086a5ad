use Rattle.std.proofs.Common.{◌≡◌, take}
use Rattle.run_script.specs.Jobs.{turns_of}
use Rattle.step_registry.specs.Core.{turn_at, answer_run, first_query}
use Rattle.step_registry.proofs.drive.answer_turn.Given as goal

abbrev pub invariant-loop-i : goal.invariant-loop-i
invariant-loop-i g l =
    let job = g.W.Work.job l.initial.work in
    (g.W.Work.job l.work ≡ job) × (g.W.Work.next l.work ≡ g.W.Work.next l.initial.work)
    × (l.list.items ≡ answer_run job l.pin.session l.pin.step.number (first_query (turns_of job l.pin.session) l.turn) (take l.i (turn_at job l.pin.session l.turn).areas))
