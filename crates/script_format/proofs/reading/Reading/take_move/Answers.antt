use Rattle.std.proofs.Common.{refl, rules}
use Rattle.script_format.proofs.RowLemmas.{stands-move}
use Rattle.script_format.proofs.reading.Reading.take_move.Goals as goal

pub returns-clause-stands : goal.returns-clause-stands
returns-clause-stands c = λ before s. stands-move before _ _ s c.args.kernel c.with_move-self.ensures (search (rules, c.in_ok-push.ensures.items, c.replace.ensures, c.of-edits.ensures)) (search (rules, c.replace.ensures)) refl refl
