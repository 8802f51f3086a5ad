use Rattle.std.proofs.Common.{◌≡◌, w32, w64}
use Rattle.std.proofs.lemmas.Int.{to_z-of_z}
use Rattle.move_kernels.proofs.kernels.ShakenMotion.place.Goals as goal

pub returns : goal.returns
returns c =
    let x = rw (to_z-of_z w32 c.x.result (record { sfits = c.x.type_inv }), c.x.ensures.value, c.get-p.ensures) at c.shaken_by.ensures in
    let y = rw (to_z-of_z w32 c.y.result (record { sfits = c.y.type_inv }), c.y.ensures.value, c.get-p.ensures) at c.shaken_by-2.ensures in
    let z = rw (to_z-of_z w32 c.z.result (record { sfits = c.z.type_inv }), c.z.ensures.value, c.get-p.ensures) at c.shaken_by-3.ensures in
    rw (
      to_z-of_z w64 c.shaken_by.result (record { sfits = c.shaken_by.type_inv }),
      to_z-of_z w64 c.shaken_by-2.result (record { sfits = c.shaken_by-2.type_inv }),
      to_z-of_z w64 c.shaken_by-3.result (record { sfits = c.shaken_by-3.type_inv }),
      x,
      y,
      z,
    ) at c.held_point.ensures
