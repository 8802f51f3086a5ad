use Rattle.std.proofs.Common.{sym, ◌∙◌}
use Rattle.turn_table.proofs.Standings.{number_is}
use Rattle.turn_table.proofs.seats.KeptSeat.number.Goals as goal

pub returns : goal.returns
returns g c = let seat = c.args.self.now in sym seat.numbered ∙ number_is seat
