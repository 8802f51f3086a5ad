use Rattle.std.proofs.Common.{◌≡◌, ℕ, ◌+◌, ◌≤◌, List, ◌++◌, length, vec_capacity, take, drop}
use Rattle.turn_table.specs.Seats.{table_of, IsNew, EachSeat}
use Rattle.step_table.specs.Seats.{EachSession, new_session}
use Rattle.step_table.proofs.table.deal.Given as goal

abbrev pub invariant-loop-session : goal.invariant-loop-session
invariant-loop-session l =
    (length l.items.items ≡ l.session) × (l.session + length l.room.items ≡ l.sessions) × EachSeat (λ s seat. IsNew (table_of l.turns) l._registry.value.job (l.session + s + 1) seat) l.room.items
    × EachSession (λ s v. v ≡ new_session (table_of l.turns) l._registry.value.job s) l.items.items × (vec_capacity l.room ≡ vec_capacity l.initial.room) × (vec_capacity l.items ≡ vec_capacity l.initial.items)
