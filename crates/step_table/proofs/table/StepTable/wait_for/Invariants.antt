use Rattle.std.proofs.Common.{◌≡◌, ℕ, ◌≤◌, List, ◌++◌}
use Rattle.step_table.specs.Seats.{SessionView}
use Rattle.step_table.proofs.table.StepTable.wait_for.Given as goal

abbrev pub invariant-loop : goal.invariant-loop
invariant-loop g l =
    (goal.iterator-loop g).can_next l.iterator' × (goal.iterator-loop g).is_finite l.iterator'
    × ((loads : List ℕ) × (l.seat.words ≡ loads ++ l.initial.seat.words)) × (l.seat ≡ record l.initial.seat { words = l.seat.words; known = l.seat.known }) × (l.initial.seat.known ≤ l.seat.known)
