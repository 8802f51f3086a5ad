use Rattle.script_format.proofs.Valid.{valid}
use Rattle.script_format.proofs.laws.texts_have_valid_scripts.Goals as goal

pub returns : goal.returns
returns c = valid
