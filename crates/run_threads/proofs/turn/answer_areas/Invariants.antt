use Rattle.std.proofs.Common.{◌≡◌, ◌+◌, ◌≤◌, length, take}
use Rattle.step_registry.specs.Core.{answer_run}
use Rattle.run_threads.proofs.turn.answer_areas.Given as goal

abbrev pub invariant-loop-area : goal.invariant-loop-area
invariant-loop-area l =
    (length l.pin.step.mesh.points ≤ length l.marks)
    × (l.query ≡ l.first + l.area-index)
    × (l.list.items ≡ answer_run l.pin.step.job l.pin.session l.pin.step.number l.first (take l.area-index l.areas))
