use Rattle.std.proofs.Common.{sym, arith}
use Rattle.vtk_legacy.proofs.VersionLemmas.{not_short}
use Rattle.vtk_legacy.proofs.version.short_number.Goals as goal

pub returns-in-Err : goal.returns-in-Err
returns-in-Err c = not_short c.args.text.now _ (omega arith) (sym c.in-Err.ensures.exact)
