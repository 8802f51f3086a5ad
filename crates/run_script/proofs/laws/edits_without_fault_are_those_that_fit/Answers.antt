use Rattle.run_script.proofs.JobLemmas.{edit-fits}
use Rattle.run_script.proofs.LawLemmas.{fits-unfaulted}
use Rattle.run_script.proofs.laws.edits_without_fault_are_those_that_fit.Goals as goal

pub returns : goal.returns
returns c = λ mesh edit. (edit-fits mesh edit, fits-unfaulted mesh edit)
