use Rattle.oct_text.proofs.ReadAgain.{count_of-again, signed_of-again, coordinate_of-again}
use Rattle.oct_text.proofs.laws.read_numbers_are_read_again.Goals as goal

pub returns : goal.returns
returns c = record { count = count_of-again; signed = signed_of-again; coordinate = coordinate_of-again }
