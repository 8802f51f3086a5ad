use Rattle.std.proofs.lemmas.Result.{on_ok_weaker}
use Rattle.script_format.proofs.ScriptAgain.{read-again}
use Rattle.script_format.proofs.printing.print_script.Goals as goal

pub returns-clause-read_again : goal.returns-clause-read_again
returns-clause-read_again c = on_ok_weaker c.put_text.result (λ _. read-again c.args.script.now c.in_ok-text.ensures.valid) c.put_text.ensures.ok
