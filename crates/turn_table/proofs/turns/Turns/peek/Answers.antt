use Rattle.std.proofs.Common.{rules, ap}
use Rattle.turn_table.proofs.Basics.{some_of}
use Rattle.turn_table.proofs.WordSteps.{peeks}
use Rattle.turn_table.proofs.Standings.{table_is, latest_is, stands_told}
use Rattle.turn_table.proofs.turns.Turns.peek.Goals as goal

pub load-requires : goal.load-requires
load-requires g c = let seat = c.args.seat.now in let h = some_of _ seat.live in (table_is seat _ c.requires.table, search rules, peeks _ _ _ _ _ h.0 h.1)

pub returns-clause-seat : goal.returns-clause-seat
returns-clause-seat g c = stands_told c.args.seat.now _ _ c.load.ensures.0 (ap (λ m. m.0) c.load.ensures.2.0)

pub returns-clause-latest : goal.returns-clause-latest
returns-clause-latest g c = latest_is c.args.seat.now c.load.result c.load.ensures.2.1
