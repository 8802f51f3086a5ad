use Rattle.std.proofs.Common.{◌≡◌, ◌∙◌, sym, ap, subst, length, arith}
use Rattle.std.specs.Arc.{arc_value}
use Rattle.mesh_base.specs.Kernel.{moved}
use Rattle.topo.specs.Topology.{mesh_at}
use Rattle.job_steps.proofs.PlanLaws.{moved-len, moved-stay}
use Rattle.job_steps.proofs.ground.moved_alone.Goals as goal

pub after-requires : goal.after-requires
after-requires c =
    let mesh = mesh_at c.deref-in_default.result.now c.deref-in_default-2.result.now in
    let len : length c.in_ok-moved-in_default.moved ≡ length mesh.points = ap length c.in_ok-moved-in_default.ensures ∙ moved-len mesh c.args.ground.now.kernel c.args.ground.now.step in
    let same : length c.deref-in_default.result.now ≡ length c.deref.result.now = ap length (c.deref-in_default.ensures ∙ sym c.deref.ensures) in
    omega (arith, len, same, c.len-few.ensures.few)

pub returns-in_ok-clone-in-Stay : goal.returns-in_ok-clone-in-Stay
returns-in_ok-clone-in-Stay c =
    let ground = c.args.ground.now in
    let mesh = mesh_at (arc_value ground.places) (arc_value ground.shape) in
    c.in_ok-clone-in-Stay.ensures.cases
    ∙ subst (λ k. mesh.points ≡ moved mesh k ground.step) (sym c.in-Stay.is) (moved-stay mesh ground.step ground.in_range)
