use Rattle.std.proofs.Common.{◌∙◌, ap, arith, [], ◌∷◌, ◌++◌, length}
use Rattle.std.proofs.lemmas.Bool.{false≢true}
use Rattle.face_table.specs.Tally.{tally_of}
use Rattle.face_table.proofs.Listed.{roomier, keeps_room, with_point}
use Rattle.face_table.proofs.table.FaceTable.put_point.Goals as goal

pub invariant_of-self : goal.invariant_of-self
invariant_of-self c = (
  roomier c.self.inside.counts.entries c.self.inside.singles.items c.reserve_point.new.singles.items c.self.inside.surface c.reserve_point.new.surface
      c.reserve_point.ensures.singles c.reserve_point.ensures.surface c.reserve_point.ensures.surface_capacity c.self.invariant.0,
  λ e. keeps_room c.self.inside.counts c.self.inside.counts c.self.inside.singles c.reserve_point.new.singles c.self.inside.surface c.reserve_point.new.surface
      (omega arith) c.reserve_point.ensures.singles c.reserve_point.ensures.single_capacity c.reserve_point.ensures.surface_capacity (c.self.invariant.1 e),
)

pub invariant_of-self-2 : goal.invariant_of-self-2
invariant_of-self-2 c =
    let e = c.push_reserved.ensures.items ∙ ap (λ l. l ++ 0 ∷ []) c.reserve_point.ensures.singles in (
      with_point c.self.inside.counts.entries c.self.inside.singles.items c.push_reserved.new.self.items c.self.inside.surface c.reserve_point.new.surface
          e c.reserve_point.ensures.surface (let r = c.in_ok-reserve_point.ensures.surface_room in omega (arith, r, ap length c.reserve_point.ensures.singles)) c.self.invariant.0,
      λ e. absurd (false≢true e),
    )

pub returns-in_err-reserve_point-clause-cells : goal.returns-in_err-reserve_point-clause-cells
returns-in_err-reserve_point-clause-cells c cells h f = ap (λ t. tally_of t f) c.self.view_is ∙ h f

pub returns-clause-cells : goal.returns-clause-cells
returns-clause-cells c cells h f = ap (λ t. tally_of t f) c.self.view_is ∙ h f
