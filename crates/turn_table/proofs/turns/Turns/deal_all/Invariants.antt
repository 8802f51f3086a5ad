use Rattle.std.proofs.Common.{◌≡◌, ◌+◌, ◌≤◌, [], Some, length, vec_capacity}
use Rattle.turn_table.specs.Views.{fresh}
use Rattle.turn_table.specs.Seats.{IsNew}
use Rattle.turn_table.proofs.Seating.{At}
use Rattle.turn_table.proofs.turns.Turns.deal_all.Given as goal

abbrev pub invariant-loop-number : goal.invariant-loop-number
invariant-loop-number g l = (l.first.table_id ≡ l.initial.first.table_id) × (l.first.me ≡ (fresh (Some (g.T.Kept.theme l._value.value)) 0 l.number, []))
    × (length l.items.items + 1 ≡ l.number) × (l.seats ≤ vec_capacity l.items) × At (λ k s. IsNew l.table.shared.table_id (g.T.Kept.theme l._value.value) (k + 1) s) l.items.items
