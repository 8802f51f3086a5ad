use Rattle.oct_text.proofs.Written.{next_token-word}
use Rattle.oct_text.proofs.laws.words_are_tokens.Goals as goal

pub returns : goal.returns
returns c = next_token-word
