use Rattle.oct_text.proofs.AllTokensLemmas.{tokens-takes, tokens-waits, tokens-at_end}
use Rattle.oct_text.proofs.laws.tokens_come_through_pieces.Goals as goal

pub returns : goal.returns
returns c = record { token = tokens-takes; more = tokens-waits; end = λ old new place. tokens-at_end old place new }
