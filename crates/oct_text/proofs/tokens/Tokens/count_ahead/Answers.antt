use Rattle.oct_text.proofs.AheadLemmas.{count_here}
use Rattle.oct_text.proofs.tokens.Tokens.count_ahead.Goals as goal

pub returns-clause-exact : goal.returns-clause-exact
returns-clause-exact c = count_here _ c.args.self.now _ c.rest.ensures c.count_front.ensures.exact
