use Rattle.script_format.proofs.ScriptAgain.{read-again}
use Rattle.script_format.proofs.laws.printed_scripts_are_read.Goals as goal

pub returns : goal.returns
returns c = read-again
