use Rattle.std.proofs.Common.{refl, rules}
use Rattle.script_format.proofs.RowLemmas.{stands-session}
use Rattle.script_format.proofs.reading.Reading.take_session.Goals as goal

pub returns-clause-stands : goal.returns-clause-stands
returns-clause-stands c = λ before s. stands-session before _ _ s c.with_session-self.ensures refl refl (search (rules, c.in_ok-push.ensures.items, c.replace.ensures)) (search (rules, c.replace.ensures))
