use Rattle.vtk_legacy.specs.Reader.{HasRead}
use Rattle.vtk_legacy.proofs.FaultLemmas.{still_fault}
use Rattle.vtk_legacy.proofs.Feeding.{passes_as}
use Rattle.vtk_legacy.proofs.reader.MeshReader.feed.Goals as goal

pub returns-in-Some-clause-read : goal.returns-in-Some-clause-read
unfolding HasRead
returns-in-Some-clause-read c fed h =
    let failed = rw c.in-Some.is at h in
    rw c.in-Some.is (still_fault _ fed c.args.piece.now failed)

pub returns-in-Some-clause-sure : goal.returns-in-Some-clause-sure
unfolding HasRead
returns-in-Some-clause-sure c fed h =
    let failed = rw c.in-Some.is at h in
    still_fault _ fed c.args.piece.now failed

pub returns-in-Passed-clause-read : goal.returns-in-Passed-clause-read
unfolding HasRead
returns-in-Passed-clause-read c fed h = passes_as c.args.self.now.failed fed c.args.piece.now _ _ _ c.in-Passed.is h
