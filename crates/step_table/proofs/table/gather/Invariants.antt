use Rattle.std.proofs.Common.{◌≡◌, ℕ, ◌+◌, ◌≤◌, List, ◌++◌, length, vec_capacity, take, drop}
use Rattle.turn_table.specs.declared.seats.KeptSeat.{KeptSeat}
use Rattle.run_script.specs.Jobs.{JobView}
use Rattle.step_registry.specs.declared.event.Event.{Event}
use Rattle.step_registry.specs.Laws.{RegistryView}
use Rattle.step_table.specs.Seats.{SessionView}
use Rattle.step_table.specs.Seating.{AreSeatsOf}
use Rattle.step_table.proofs.table.gather.Given as goal

abbrev pub invariant-loop : goal.invariant-loop
invariant-loop l =
    (before : List SessionView) × (seats : List (KeptSeat RegistryView JobView Event)) × (l.initial.items.items ≡ before ++ l.items.items) × (l.room.items ≡ l.initial.room.items ++ seats) × AreSeatsOf seats before × (l.counter + length l.items.items ≡ l.end) × (length l.room.items + length l.items.items ≡ length l.initial.room.items + l.end) × (vec_capacity l.room ≡ vec_capacity l.initial.room)
