use Rattle.std.proofs.Common.{refl}
use Rattle.script_format.proofs.RowLemmas.{stands-end}
use Rattle.script_format.proofs.reading.Reading.take_end.Goals as goal

pub returns-clause-stands : goal.returns-clause-stands
returns-clause-stands c = λ before s. stands-end before _ _ s refl refl refl refl refl
