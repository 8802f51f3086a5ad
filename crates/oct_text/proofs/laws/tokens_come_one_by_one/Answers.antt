use Rattle.oct_text.proofs.AllTokensLemmas.{tokens-next, tokens-none}
use Rattle.oct_text.proofs.laws.tokens_come_one_by_one.Goals as goal

pub returns : goal.returns
returns c = record { next = tokens-next; none = tokens-none }
