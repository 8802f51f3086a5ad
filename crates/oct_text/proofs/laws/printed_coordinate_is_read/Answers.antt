use Rattle.oct_text.proofs.Written.{coordinate_of-decimal}
use Rattle.oct_text.proofs.laws.printed_coordinate_is_read.Goals as goal

pub returns : goal.returns
returns c = coordinate_of-decimal
