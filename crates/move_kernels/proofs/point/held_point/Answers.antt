use Rattle.std.proofs.Common.{◌≡◌, ◌∙◌, ap, rules, arith, w32, w64}
use Rattle.std.specs.Prelude.{FitsSigned}
use Rattle.std.proofs.lemmas.Int.{to_z-of_z, ints}
use Rattle.mesh_base.specs.Kernel.{held}
use Rattle.move_kernels.proofs.PlaceLaws.{some_is, same_place}
use Rattle.move_kernels.proofs.point.held_point.Goals as goal

pub returns : goal.returns
returns c =
    let x : FitsSigned w32 c.held.result = search rules in
    let y : FitsSigned w32 c.held-2.result = search rules in
    let z : FitsSigned w32 c.held-3.result = search rules in
    some_is _ _ _ _ c.new.ensures c.unwrap.ensures
    ∙ same_place _ _
    (to_z-of_z w32 c.held.result x ∙ c.held.ensures.value ∙ ap held (to_z-of_z w64 c.args.x c.ranges.x))
    (to_z-of_z w32 c.held-2.result y ∙ c.held-2.ensures.value ∙ ap held (to_z-of_z w64 c.args.y c.ranges.y))
    (to_z-of_z w32 c.held-3.result z ∙ c.held-3.ensures.value ∙ ap held (to_z-of_z w64 c.args.z c.ranges.z))
