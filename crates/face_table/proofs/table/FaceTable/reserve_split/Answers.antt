use Rattle.std.proofs.Common.{sym, subst, arith}
use Rattle.face_table.specs.Tally.{IsFaceTable}
use Rattle.face_table.proofs.Listed.{roomier, keeps_room}
use Rattle.face_table.proofs.table.FaceTable.reserve_split.Goals as goal

pub invariant_of-self-in_err-reserve_point : goal.invariant_of-self-in_err-reserve_point
invariant_of-self-in_err-reserve_point c =
    let p = c.reserve_point in (
      subst (λ l. IsFaceTable l p.new.singles.items p.new.surface) (sym c.reserve.ensures.entries)
          (roomier c.self.inside.counts.entries c.self.inside.singles.items p.new.singles.items c.self.inside.surface p.new.surface p.ensures.singles p.ensures.surface p.ensures.surface_capacity c.self.invariant.0),
      λ e. keeps_room c.self.inside.counts c.reserve.new.self c.self.inside.singles p.new.singles c.self.inside.surface p.new.surface
          c.reserve.ensures.room p.ensures.singles p.ensures.single_capacity p.ensures.surface_capacity (c.self.invariant.1 e),
    )

pub invariant_of-self-2 : goal.invariant_of-self-2
invariant_of-self-2 c =
    let p = c.reserve_point in (
      subst (λ l. IsFaceTable l p.new.singles.items p.new.surface) (sym c.reserve.ensures.entries)
          (roomier c.self.inside.counts.entries c.self.inside.singles.items p.new.singles.items c.self.inside.surface p.new.surface p.ensures.singles p.ensures.surface p.ensures.surface_capacity c.self.invariant.0),
      λ _. record { faces = omega (arith, c.in_ok-reserve.ensures.ok); numbers = omega (arith, c.in_ok-reserve_point.ensures.single_room); listed = omega (arith, c.in_ok-reserve_point.ensures.surface_room) },
    )
