use Rattle.oct_text.proofs.Written.{signed_of-decimal}
use Rattle.oct_text.proofs.laws.printed_number_is_read.Goals as goal

pub returns : goal.returns
returns c = signed_of-decimal
