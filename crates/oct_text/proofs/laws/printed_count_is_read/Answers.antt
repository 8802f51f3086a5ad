use Rattle.oct_text.proofs.Written.{count_of-decimal}
use Rattle.oct_text.proofs.laws.printed_count_is_read.Goals as goal

pub returns : goal.returns
returns c = count_of-decimal
