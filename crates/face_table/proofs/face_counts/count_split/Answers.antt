use Rattle.std.proofs.Common.{◌≡◌, true, get_or, ap, sym, subst, ◌∙◌, arith}
use Rattle.mesh_base.specs.Mesh.{is_on, face_eq}
use Rattle.mesh_base.proofs.Corners.{array-apart}
use Rattle.face_table.proofs.Splits.{two, unlike_first, unlike_second, array-beside, array-faces}
use Rattle.face_table.proofs.Within.{third_on}
use Rattle.face_table.proofs.face_counts.count_split.Goals as goal

pub new-requires : goal.new-requires
new-requires c =
    let xs = c.corners.result in
    let y = array-apart xs c.args.cell.now c.corners.ensures.corners c.corners.ensures.different in
    let q = array-beside xs c.args.cell.now c.args.point c.corners.ensures.corners c.requires.beside in
    record { ab = y.0; ac = q.0; bc = q.1 }

pub new-requires-2 : goal.new-requires-2
new-requires-2 c =
    let xs = c.corners.result in
    let y = array-apart xs c.args.cell.now c.corners.ensures.corners c.corners.ensures.different in
    let q = array-beside xs c.args.cell.now c.args.point c.corners.ensures.corners c.requires.beside in
    record { ab = y.1; ac = q.0; bc = q.2 }

pub new-requires-3 : goal.new-requires-3
new-requires-3 c =
    let xs = c.corners.result in
    let y = array-apart xs c.args.cell.now c.corners.ensures.corners c.corners.ensures.different in
    let q = array-beside xs c.args.cell.now c.args.point c.corners.ensures.corners c.requires.beside in
    record { ab = y.2; ac = q.0; bc = q.3 }

pub new-requires-4 : goal.new-requires-4
new-requires-4 c =
    let xs = c.corners.result in
    let y = array-apart xs c.args.cell.now c.corners.ensures.corners c.corners.ensures.different in
    let q = array-beside xs c.args.cell.now c.args.point c.corners.ensures.corners c.requires.beside in
    record { ab = y.3; ac = q.1; bc = q.2 }

pub new-requires-5 : goal.new-requires-5
new-requires-5 c =
    let xs = c.corners.result in
    let y = array-apart xs c.args.cell.now c.corners.ensures.corners c.corners.ensures.different in
    let q = array-beside xs c.args.cell.now c.args.point c.corners.ensures.corners c.requires.beside in
    record { ab = y.4; ac = q.1; bc = q.3 }

pub new-requires-6 : goal.new-requires-6
new-requires-6 c =
    let xs = c.corners.result in
    let y = array-apart xs c.args.cell.now c.corners.ensures.corners c.corners.ensures.different in
    let q = array-beside xs c.args.cell.now c.args.point c.corners.ensures.corners c.requires.beside in
    record { ab = y.5; ac = q.2; bc = q.3 }

pub count_new-requires-clause-new : goal.count_new-requires-clause-new
count_new-requires-clause-new c =
    let xs = c.corners.result in
    let p = c.args.point in
    let h = c.new.result in
    let on = subst (λ t. is_on t p ≡ true) (sym c.new.ensures) (third_on (get_or xs 0 0) (get_or xs 1 0) p) in
    c.requires.new h on

pub count_new-requires-2-clause-new : goal.count_new-requires-2-clause-new
count_new-requires-2-clause-new c =
    let xs = c.corners.result in
    let y = array-apart xs c.args.cell.now c.corners.ensures.corners c.corners.ensures.different in
    let q = array-beside xs c.args.cell.now c.args.point c.corners.ensures.corners c.requires.beside in
    let p = c.args.point in
    let h = c.new-2.result in
    let on = subst (λ t. is_on t p ≡ true) (sym c.new-2.ensures) (third_on (get_or xs 0 0) (get_or xs 2 0) p) in
    omega (
      arith,
      c.requires.new h on,
      c.count_new.ensures.tally h,
      unlike_second c.new.result h (get_or xs 0 0) (get_or xs 1 0) (get_or xs 0 0) (get_or xs 2 0) p c.new.ensures c.new-2.ensures y.0 (λ r. y.3 (sym r)) (λ r. q.1 (sym r)),
    )

pub count_new-requires-3-clause-new : goal.count_new-requires-3-clause-new
count_new-requires-3-clause-new c =
    let xs = c.corners.result in
    let y = array-apart xs c.args.cell.now c.corners.ensures.corners c.corners.ensures.different in
    let q = array-beside xs c.args.cell.now c.args.point c.corners.ensures.corners c.requires.beside in
    let p = c.args.point in
    let h = c.new-3.result in
    let on = subst (λ t. is_on t p ≡ true) (sym c.new-3.ensures) (third_on (get_or xs 0 0) (get_or xs 3 0) p) in
    omega (
      arith,
      c.requires.new h on,
      c.count_new.ensures.tally h,
      unlike_second c.new.result h (get_or xs 0 0) (get_or xs 1 0) (get_or xs 0 0) (get_or xs 3 0) p c.new.ensures c.new-3.ensures y.0 (λ r. y.4 (sym r)) (λ r. q.1 (sym r)),
      c.count_new-2.ensures.tally h,
      unlike_second c.new-2.result h (get_or xs 0 0) (get_or xs 2 0) (get_or xs 0 0) (get_or xs 3 0) p c.new-2.ensures c.new-3.ensures y.1 (λ r. y.5 (sym r)) (λ r. q.2 (sym r)),
    )

pub count_new-requires-4-clause-new : goal.count_new-requires-4-clause-new
count_new-requires-4-clause-new c =
    let xs = c.corners.result in
    let y = array-apart xs c.args.cell.now c.corners.ensures.corners c.corners.ensures.different in
    let q = array-beside xs c.args.cell.now c.args.point c.corners.ensures.corners c.requires.beside in
    let p = c.args.point in
    let h = c.new-4.result in
    let on = subst (λ t. is_on t p ≡ true) (sym c.new-4.ensures) (third_on (get_or xs 1 0) (get_or xs 2 0) p) in
    omega (
      arith,
      c.requires.new h on,
      c.count_new.ensures.tally h,
      unlike_first c.new.result h (get_or xs 0 0) (get_or xs 1 0) (get_or xs 1 0) (get_or xs 2 0) p c.new.ensures c.new-4.ensures (λ r. y.0 (sym r)) (λ r. y.1 (sym r)) (λ r. q.0 (sym r)),
      c.count_new-2.ensures.tally h,
      unlike_first c.new-2.result h (get_or xs 0 0) (get_or xs 2 0) (get_or xs 1 0) (get_or xs 2 0) p c.new-2.ensures c.new-4.ensures (λ r. y.0 (sym r)) (λ r. y.1 (sym r)) (λ r. q.0 (sym r)),
      c.count_new-3.ensures.tally h,
      unlike_first c.new-3.result h (get_or xs 0 0) (get_or xs 3 0) (get_or xs 1 0) (get_or xs 2 0) p c.new-3.ensures c.new-4.ensures (λ r. y.0 (sym r)) (λ r. y.1 (sym r)) (λ r. q.0 (sym r)),
    )

pub count_new-requires-5-clause-new : goal.count_new-requires-5-clause-new
count_new-requires-5-clause-new c =
    let xs = c.corners.result in
    let y = array-apart xs c.args.cell.now c.corners.ensures.corners c.corners.ensures.different in
    let q = array-beside xs c.args.cell.now c.args.point c.corners.ensures.corners c.requires.beside in
    let p = c.args.point in
    let h = c.new-5.result in
    let on = subst (λ t. is_on t p ≡ true) (sym c.new-5.ensures) (third_on (get_or xs 1 0) (get_or xs 3 0) p) in
    omega (
      arith,
      c.requires.new h on,
      c.count_new.ensures.tally h,
      unlike_first c.new.result h (get_or xs 0 0) (get_or xs 1 0) (get_or xs 1 0) (get_or xs 3 0) p c.new.ensures c.new-5.ensures (λ r. y.0 (sym r)) (λ r. y.2 (sym r)) (λ r. q.0 (sym r)),
      c.count_new-2.ensures.tally h,
      unlike_first c.new-2.result h (get_or xs 0 0) (get_or xs 2 0) (get_or xs 1 0) (get_or xs 3 0) p c.new-2.ensures c.new-5.ensures (λ r. y.0 (sym r)) (λ r. y.2 (sym r)) (λ r. q.0 (sym r)),
      c.count_new-3.ensures.tally h,
      unlike_first c.new-3.result h (get_or xs 0 0) (get_or xs 3 0) (get_or xs 1 0) (get_or xs 3 0) p c.new-3.ensures c.new-5.ensures (λ r. y.0 (sym r)) (λ r. y.2 (sym r)) (λ r. q.0 (sym r)),
      c.count_new-4.ensures.tally h,
      unlike_second c.new-4.result h (get_or xs 1 0) (get_or xs 2 0) (get_or xs 1 0) (get_or xs 3 0) p c.new-4.ensures c.new-5.ensures y.3 (λ r. y.5 (sym r)) (λ r. q.2 (sym r)),
    )

pub count_new-requires-6-clause-new : goal.count_new-requires-6-clause-new
count_new-requires-6-clause-new c =
    let xs = c.corners.result in
    let y = array-apart xs c.args.cell.now c.corners.ensures.corners c.corners.ensures.different in
    let q = array-beside xs c.args.cell.now c.args.point c.corners.ensures.corners c.requires.beside in
    let p = c.args.point in
    let h = c.new-6.result in
    let on = subst (λ t. is_on t p ≡ true) (sym c.new-6.ensures) (third_on (get_or xs 2 0) (get_or xs 3 0) p) in
    omega (
      arith,
      c.requires.new h on,
      c.count_new.ensures.tally h,
      unlike_first c.new.result h (get_or xs 0 0) (get_or xs 1 0) (get_or xs 2 0) (get_or xs 3 0) p c.new.ensures c.new-6.ensures (λ r. y.1 (sym r)) (λ r. y.2 (sym r)) (λ r. q.0 (sym r)),
      c.count_new-2.ensures.tally h,
      unlike_first c.new-2.result h (get_or xs 0 0) (get_or xs 2 0) (get_or xs 2 0) (get_or xs 3 0) p c.new-2.ensures c.new-6.ensures (λ r. y.1 (sym r)) (λ r. y.2 (sym r)) (λ r. q.0 (sym r)),
      c.count_new-3.ensures.tally h,
      unlike_first c.new-3.result h (get_or xs 0 0) (get_or xs 3 0) (get_or xs 2 0) (get_or xs 3 0) p c.new-3.ensures c.new-6.ensures (λ r. y.1 (sym r)) (λ r. y.2 (sym r)) (λ r. q.0 (sym r)),
      c.count_new-4.ensures.tally h,
      unlike_first c.new-4.result h (get_or xs 1 0) (get_or xs 2 0) (get_or xs 2 0) (get_or xs 3 0) p c.new-4.ensures c.new-6.ensures (λ r. y.3 (sym r)) (λ r. y.4 (sym r)) (λ r. q.1 (sym r)),
      c.count_new-5.ensures.tally h,
      unlike_first c.new-5.result h (get_or xs 1 0) (get_or xs 3 0) (get_or xs 2 0) (get_or xs 3 0) p c.new-5.ensures c.new-6.ensures (λ r. y.3 (sym r)) (λ r. y.4 (sym r)) (λ r. q.1 (sym r)),
    )

pub returns-clause-tally : goal.returns-clause-tally
returns-clause-tally c f =
    omega (
      arith,
      array-faces c.corners.result c.args.cell.now c.args.point f c.corners.ensures.corners,
      c.count_new.ensures.tally f,
      ap (λ g. two (face_eq g f)) c.new.ensures,
      c.count_new-2.ensures.tally f,
      ap (λ g. two (face_eq g f)) c.new-2.ensures,
      c.count_new-3.ensures.tally f,
      ap (λ g. two (face_eq g f)) c.new-3.ensures,
      c.count_new-4.ensures.tally f,
      ap (λ g. two (face_eq g f)) c.new-4.ensures,
      c.count_new-5.ensures.tally f,
      ap (λ g. two (face_eq g f)) c.new-5.ensures,
      c.count_new-6.ensures.tally f,
      ap (λ g. two (face_eq g f)) c.new-6.ensures,
    )

pub returns-clause-singles : goal.returns-clause-singles
returns-clause-singles c v =
    c.count_new-6.ensures.singles v ∙ c.count_new-5.ensures.singles v ∙ c.count_new-4.ensures.singles v ∙ c.count_new-3.ensures.singles v ∙ c.count_new-2.ensures.singles v ∙ c.count_new.ensures.singles v
