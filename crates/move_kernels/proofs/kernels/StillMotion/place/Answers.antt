use Rattle.std.proofs.Common.{◌≡◌, ◌∙◌, ap}
use Rattle.mesh_base.specs.Kernel.{held_place}
use Rattle.move_kernels.proofs.PlaceLaws.{widened}
use Rattle.move_kernels.proofs.kernels.StillMotion.place.Goals as goal

pub returns : goal.returns
returns c =
    let h = rw (
      widened c.x.result (record { sfits = c.x.type_inv }),
      widened c.y.result (record { sfits = c.y.type_inv }),
      widened c.z.result (record { sfits = c.z.type_inv }),
      c.x.ensures.value,
      c.y.ensures.value,
      c.z.ensures.value,
    ) at c.held_point.ensures in
    h ∙ ap held_place c.get-p.ensures
