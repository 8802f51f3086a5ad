use Rattle.std.proofs.Common.{◌≡◌, rules, w32, w64}
use Rattle.std.specs.Prelude.{FitsSigned}
use Rattle.std.proofs.lemmas.Int.{to_z-of_z}
use Rattle.move_kernels.proofs.kernels.PulledMotion.place.Goals as goal

pub returns : goal.returns
returns c =
    let m = c.args.self.now in
    let num : FitsSigned w32 m.num = search rules in
    let den : FitsSigned w32 m.den = search rules in
    let x = rw (
      to_z-of_z w32 c.x.result (record { sfits = c.x.type_inv }),
      to_z-of_z w32 c.x-2.result (record { sfits = c.x-2.type_inv }),
      to_z-of_z w32 m.num num,
      to_z-of_z w32 m.den den,
      c.x.ensures.value,
      c.x-2.ensures.value,
      c.get-p.ensures,
    ) at c.pulled_to.ensures in
    let y = rw (
      to_z-of_z w32 c.y.result (record { sfits = c.y.type_inv }),
      to_z-of_z w32 c.y-2.result (record { sfits = c.y-2.type_inv }),
      to_z-of_z w32 m.num num,
      to_z-of_z w32 m.den den,
      c.y.ensures.value,
      c.y-2.ensures.value,
      c.get-p.ensures,
    ) at c.pulled_to-2.ensures in
    let z = rw (
      to_z-of_z w32 c.z.result (record { sfits = c.z.type_inv }),
      to_z-of_z w32 c.z-2.result (record { sfits = c.z-2.type_inv }),
      to_z-of_z w32 m.num num,
      to_z-of_z w32 m.den den,
      c.z.ensures.value,
      c.z-2.ensures.value,
      c.get-p.ensures,
    ) at c.pulled_to-3.ensures in
    rw (
      to_z-of_z w64 c.pulled_to.result (record { sfits = c.pulled_to.type_inv }),
      to_z-of_z w64 c.pulled_to-2.result (record { sfits = c.pulled_to-2.type_inv }),
      to_z-of_z w64 c.pulled_to-3.result (record { sfits = c.pulled_to-3.type_inv }),
      x,
      y,
      z,
    ) at c.held_point.ensures
