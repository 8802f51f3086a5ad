use Rattle.report.proofs.Holds.{whole-run}
use Rattle.report.proofs.laws.whole_runs_are_true.Goals as goal

pub returns : goal.returns
returns c = whole-run
