use Rattle.std.proofs.Common.{◌≡◌, None, set, length, ap, ◌∙◌, arith}
use Rattle.std.proofs.lemmas.Bool.{false≢true}
use Rattle.mesh_base.specs.Edit.{quarters}
use Rattle.mesh_base.proofs.FaceLaws.{face_count-set, face_count-append}
use Rattle.face_table.specs.Tally.{tally_of}
use Rattle.face_table.proofs.Listed.{with_split}
use Rattle.face_table.proofs.Splits.{off_counted, no_corner_at, below_split}
use Rattle.face_table.proofs.table.FaceTable.split_cell.Goals as goal

pub count_split-requires-clause-room : goal.count_split-requires-clause-room
count_split-requires-clause-room c =
    let r = c.self.invariant.1 (ap (λ t. t.ready) c.self.view_is ∙ c.requires.ready) in
    omega (arith, r.faces)

pub count_split-requires-clause-new : goal.count_split-requires-clause-new
count_split-requires-clause-new c f on =
    let e : c.args.point ≡ length c.self.inside.singles.items = omega (arith, ap (λ t. t.points) c.self.view_is, c.requires.next) in
    off_counted c.args.point _ c.self.inside.counts.entries f e c.self.invariant.0.within on

pub count_split-requires-clause-beside : goal.count_split-requires-clause-beside
count_split-requires-clause-beside c =
    let e : c.args.point ≡ length c.self.inside.singles.items = omega (arith, ap (λ t. t.points) c.self.view_is, c.requires.next) in
    let t = c.requires.there in
    no_corner_at c.args.point _ c.self.inside.counts.entries c.args.cell e c.self.invariant.0.within
    (λ f. let d = ap (λ t. tally_of t f) c.self.view_is in omega (arith, d, t.2 f, face_count-set t.0 t.1 c.args.cell f t.3))

pub push_reserved-requires : goal.push_reserved-requires
push_reserved-requires c =
    let r = c.self.invariant.1 (ap (λ t. t.ready) c.self.view_is ∙ c.requires.ready) in
    omega (arith, r.numbers)

pub invariant_of-self : goal.invariant_of-self
invariant_of-self c =
    let e : c.args.point ≡ length c.self.inside.singles.items = omega (arith, ap (λ t. t.points) c.self.view_is, c.requires.next) in
    let t = c.requires.there in
    let r = c.self.invariant.1 (ap (λ t. t.ready) c.self.view_is ∙ c.requires.ready) in
    let b =
    below_split c.args.point _ c.self.inside.counts.entries c.args.cell e c.self.invariant.0.within
    (λ f. let d = ap (λ t. tally_of t f) c.self.view_is in omega (arith, d, t.2 f, face_count-set t.0 t.1 c.args.cell f t.3)) c.count_split.new.counts.entries c.count_split.ensures.tally in (
      with_split c.self.inside.counts.entries c.count_split.new.counts.entries c.self.inside.singles.items c.push_reserved.new.self.items c.self.inside.surface
          c.push_reserved.ensures.items r.listed b c.count_split.ensures.singles c.self.invariant.0,
      λ e. absurd (false≢true e),
    )

pub returns-clause-cells : goal.returns-clause-cells
returns-clause-cells c cells i h at f =
    let a = c.count_split.ensures.tally f in
    let d = ap (λ t. tally_of t f) c.self.view_is in
    omega (arith, a, d, h f, face_count-set cells i c.args.cell f at, face_count-append (set cells i None) (quarters c.args.point c.args.cell) f)
