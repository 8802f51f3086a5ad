use Rattle.std.proofs.Common.{◌∙◌, []}
use Rattle.std.proofs.lemmas.List.{append-nil}
use Rattle.vtk_legacy.specs.Reader.{HasRead}
use Rattle.vtk_legacy.proofs.MeshLemmas.{accepted-mesh}
use Rattle.vtk_legacy.proofs.reader.MeshReader.finish.Goals as goal

pub returns-in-Some-clause-read : goal.returns-in-Some-clause-read
unfolding HasRead
returns-in-Some-clause-read c fed h =
    let failed = rw c.in-Some.is at h in
    let now = failed [] in
    rw append-nil at now

-- the points and cells of a mesh text are a mesh
pub returns-in-None-clause-read : goal.returns-in-None-clause-read
unfolding HasRead
returns-in-None-clause-read c fed h =
    let decides = rw c.in_default.is at h in
    let now = decides [] in
    let here = rw (append-nil fed) at now in
    let valid = accepted-mesh fed _ (here ∙ c.in_ok-close.ensures) in
    absurd (c.in-None.ensures (rw (c.into_lists-points.ensures.points, c.into_lists-points.ensures.cells) valid))
