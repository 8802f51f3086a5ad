use Rattle.std.proofs.Common.{rules}
use Rattle.turn_table.proofs.Basics.{some_of}
use Rattle.turn_table.proofs.SeatSteps.{deals}
use Rattle.turn_table.proofs.turns.Turns.deal.Goals as goal

pub split_seat-requires : goal.split_seat-requires
split_seat-requires g c = let h = some_of _ c.requires.first.0 in (search rules, search rules, deals _ _ _ _ h.0 h.1 c.requires.first.1 (search rules))
