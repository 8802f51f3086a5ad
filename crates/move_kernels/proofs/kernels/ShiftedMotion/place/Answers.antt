use Rattle.std.proofs.Common.{◌≡◌, ◌∙◌, ap, rules, w32}
use Rattle.std.specs.Prelude.{FitsSigned}
use Rattle.mesh_base.specs.Kernel.{held_place, plus}
use Rattle.move_kernels.proofs.PlaceLaws.{widened, added}
use Rattle.move_kernels.proofs.kernels.ShiftedMotion.place.Goals as goal

pub returns : goal.returns
returns c =
    let m = c.args.self.now in
    let fx : FitsSigned w32 c.x.result = record { sfits = c.x.type_inv } in
    let fy : FitsSigned w32 c.y.result = record { sfits = c.y.type_inv } in
    let fz : FitsSigned w32 c.z.result = record { sfits = c.z.type_inv } in
    let gx : FitsSigned w32 m.dx = search rules in
    let gy : FitsSigned w32 m.dy = search rules in
    let gz : FitsSigned w32 m.dz = search rules in
    let h = rw (
      widened c.x.result fx,
      widened c.y.result fy,
      widened c.z.result fz,
      widened m.dx gx,
      widened m.dy gy,
      widened m.dz gz,
      added c.x.result m.dx fx gx,
      added c.y.result m.dy fy gy,
      added c.z.result m.dz fz gz,
      c.x.ensures.value,
      c.y.ensures.value,
      c.z.ensures.value,
    ) at c.held_point.ensures in
    h ∙ ap (λ p. held_place (plus p (m.dx, m.dy, m.dz))) c.get-p.ensures
