use Rattle.oct_text.proofs.ReadAgain.{decimal-count}
use Rattle.oct_text.proofs.laws.read_count_is_printed.Goals as goal

pub returns : goal.returns
returns c = decimal-count
