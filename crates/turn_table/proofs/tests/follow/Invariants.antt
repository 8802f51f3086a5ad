use Rattle.turn_table.specs.Seats.{table_of, IsBack}
use Rattle.turn_table.proofs.tests.follow.Given as goal

abbrev pub invariant-loop : goal.invariant-loop
invariant-loop g l = (goal.iterator-loop g).can_next l.iterator' × (goal.iterator-loop g).is_finite l.iterator' × IsBack (table_of l.turns) 1 l.seat
