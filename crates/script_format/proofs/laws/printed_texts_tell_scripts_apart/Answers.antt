use Rattle.script_format.proofs.ScriptAgain.{same-text, same-scripts, text-again}
use Rattle.script_format.proofs.laws.printed_texts_tell_scripts_apart.Goals as goal

pub returns-clause-same : goal.returns-clause-same
returns-clause-same c = same-text

pub returns-clause-only : goal.returns-clause-only
returns-clause-only c = same-scripts

pub returns-clause-again : goal.returns-clause-again
returns-clause-again c = text-again
