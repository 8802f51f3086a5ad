use Rattle.oct_text.proofs.Written.{texts-list}
use Rattle.oct_text.proofs.laws.printed_list_is_tokens.Goals as goal

pub returns : goal.returns
returns c = texts-list
