use Rattle.oct_text.proofs.AllTokensLemmas.{run-token, run-none}
use Rattle.oct_text.proofs.laws.next_token_is_longest_run.Goals as goal

pub returns : goal.returns
returns c = record { some = run-token; none = run-none }
