use Rattle.std.proofs.Common.{refl}
use Rattle.script_format.proofs.RowLemmas.{stands-item}
use Rattle.script_format.proofs.reading.Reading.take_item.Goals as goal

pub returns-clause-stands : goal.returns-clause-stands
returns-clause-stands c = λ before s. stands-item before _ _ s c.args.item c.with_item-self.ensures refl refl refl c.in_ok-push.ensures.items
