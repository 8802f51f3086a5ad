use Rattle.std.proofs.Common.{◌∙◌, arith, slice_index_or}
use Rattle.face_table.proofs.Sums.{off_faces, face_eq-refl}
use Rattle.face_table.proofs.singles.take_faces.Goals as goal

pub take_face-requires-clause-there : goal.take_face-requires-clause-there
take_face-requires-clause-there c =
    let f = slice_index_or c.faces.result 0 c.index-faces-0.result in
    grind (arith, c.requires.there f, face_eq-refl f, c.faces.ensures)

pub take_face-requires-2-clause-there : goal.take_face-requires-2-clause-there
take_face-requires-2-clause-there c =
    let f = slice_index_or c.faces.result 1 c.index-faces-1.result in
    grind (arith, c.requires.there f, face_eq-refl f, c.faces.ensures, c.take_face.ensures.tally f)

pub take_face-requires-3-clause-there : goal.take_face-requires-3-clause-there
take_face-requires-3-clause-there c =
    let f = slice_index_or c.faces.result 2 c.index-faces-2.result in
    grind (arith, c.requires.there f, face_eq-refl f, c.faces.ensures, c.take_face.ensures.tally f, c.take_face-2.ensures.tally f)

pub take_face-requires-4-clause-there : goal.take_face-requires-4-clause-there
take_face-requires-4-clause-there c =
    let f = slice_index_or c.faces.result 3 c.index-faces-3.result in
    grind (arith, c.requires.there f, face_eq-refl f, c.faces.ensures, c.take_face.ensures.tally f, c.take_face-2.ensures.tally f, c.take_face-3.ensures.tally f)

pub returns-clause-others : goal.returns-clause-others
returns-clause-others c v h =
    let off = off_faces c.faces.result c.args.cell.now v c.faces.ensures h in
    c.take_face-4.ensures.others v (off 3 _ (omega arith)) ∙ c.take_face-3.ensures.others v (off 2 _ (omega arith))
    ∙ c.take_face-2.ensures.others v (off 1 _ (omega arith)) ∙ c.take_face.ensures.others v (off 0 _ (omega arith))
