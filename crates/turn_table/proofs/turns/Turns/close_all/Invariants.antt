use Rattle.turn_table.proofs.Seating.{Gathering}
use Rattle.turn_table.proofs.turns.Turns.close_all.Given as goal

abbrev pub invariant-loop-seat : goal.invariant-loop-seat
invariant-loop-seat g l = Gathering l.self.table.shared.table_id l.initial.first.me.0 l.fn.items.items l.items.items l.first.table_id l.first.me

abbrev pub decreases-loop-seat : goal.decreases-loop-seat
decreases-loop-seat g l = goal.left-loop-seat g l
