use Rattle.std.proofs.Common.{refl, rules}
use Rattle.script_format.proofs.RowLemmas.{stands-edit}
use Rattle.script_format.proofs.reading.Reading.take_edit.Goals as goal

pub returns-clause-stands : goal.returns-clause-stands
returns-clause-stands c = λ before s. stands-edit before _ _ s c.args.edit c.with_edit-self.ensures refl (search (rules, c.in_ok-push_edit.ensures)) refl refl
