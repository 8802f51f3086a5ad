use Rattle.script_format.proofs.Again.{line-again, words-again}
use Rattle.script_format.proofs.laws.printed_lines_are_read.Goals as goal

pub returns-clause-line : goal.returns-clause-line
returns-clause-line c = line-again

pub returns-clause-words : goal.returns-clause-words
returns-clause-words c = words-again
