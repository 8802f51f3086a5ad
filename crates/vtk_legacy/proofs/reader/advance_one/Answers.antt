use Rattle.vtk_legacy.proofs.Advance.{passed_all}
use Rattle.vtk_legacy.proofs.reader.advance_one.Goals as goal

pub returns-in-Passed : goal.returns-in-Passed
returns-in-Passed c = rw c.in-Passed.is (passed_all c.args.got.now c.args.tokens.now)
