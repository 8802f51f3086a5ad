use Rattle.std.proofs.Common.{◌∙◌, arith, slice_index_or}
use Rattle.face_table.proofs.Sums.{off_faces}
use Rattle.face_table.proofs.singles.put_faces.Goals as goal

pub put_face-requires-4-clause-fits : goal.put_face-requires-4-clause-fits
put_face-requires-4-clause-fits c =
    let f = slice_index_or c.faces.result 3 c.index-faces-3.result in
    omega (arith, c.put_face-3.ensures.grows f, c.put_face-2.ensures.grows f, c.put_face.ensures.grows f, c.requires.fits f)

pub returns-clause-others : goal.returns-clause-others
returns-clause-others c v h =
    let off = off_faces c.faces.result c.args.cell.now v c.faces.ensures h in
    c.put_face-4.ensures.others v (off 3 _ (omega arith)) ∙ c.put_face-3.ensures.others v (off 2 _ (omega arith))
    ∙ c.put_face-2.ensures.others v (off 1 _ (omega arith)) ∙ c.put_face.ensures.others v (off 0 _ (omega arith))
