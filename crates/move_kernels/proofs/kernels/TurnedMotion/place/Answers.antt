use Rattle.std.proofs.Common.{◌≡◌, ◌∙◌, ap, sym, w32}
use Rattle.std.specs.Prelude.{FitsSigned}
use Rattle.mesh_base.specs.Kernel.{held_place, turned}
use Rattle.mesh_base.specs.declared.edit.Axis.TheVariants.{X, Y, Z}
use Rattle.move_kernels.proofs.PlaceLaws.{widened, negated}
use Rattle.move_kernels.proofs.kernels.TurnedMotion.place.Goals as goal

pub returns-in-X : goal.returns-in-X
returns-in-X c =
    let z : FitsSigned w32 c.z.result = record { sfits = c.z.type_inv } in
    let h = rw (
      widened c.x.result (record { sfits = c.x.type_inv }),
      widened c.y.result (record { sfits = c.y.type_inv }),
      widened c.z.result z,
      negated c.z.result z,
      c.x.ensures.value,
      c.y.ensures.value,
      c.z.ensures.value,
    ) at c.held_point.ensures in
    rw c.in-X.is (h ∙ ap (λ p. held_place (turned X p)) c.get-p.ensures)

pub returns-in-Y : goal.returns-in-Y
returns-in-Y c =
    let x : FitsSigned w32 c.x.result = record { sfits = c.x.type_inv } in
    let h = rw (
      widened c.x.result x,
      widened c.y.result (record { sfits = c.y.type_inv }),
      widened c.z.result (record { sfits = c.z.type_inv }),
      negated c.x.result x,
      c.x.ensures.value,
      c.y.ensures.value,
      c.z.ensures.value,
    ) at c.held_point-in-Y.ensures in
    rw c.in-Y.is (h ∙ ap (λ p. held_place (turned Y p)) c.get-p.ensures)

pub returns-in-Z : goal.returns-in-Z
returns-in-Z c =
    let y : FitsSigned w32 c.y.result = record { sfits = c.y.type_inv } in
    let h = rw (
      widened c.x.result (record { sfits = c.x.type_inv }),
      widened c.y.result y,
      widened c.z.result (record { sfits = c.z.type_inv }),
      negated c.y.result y,
      c.x.ensures.value,
      c.y.ensures.value,
      c.z.ensures.value,
    ) at c.held_point-in-Z.ensures in
    rw c.in-Z.is (h ∙ ap (λ p. held_place (turned Z p)) c.get-p.ensures)
