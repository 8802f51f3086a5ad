use Rattle.std.proofs.Common.{subst}
use Rattle.turn_table.specs.Seats.{EachSeat, GoesOn, standing}
use Rattle.turn_table.proofs.turns.Turns.close.Goals as goal

pub returns-clause-seats : goal.returns-clause-seats
returns-clause-seats g c = subst (EachSeat (λ n seat. GoesOn g.T.Kept (standing seat) c.close_all.result)) c.into_items.ensures c.close_all.ensures.seats
