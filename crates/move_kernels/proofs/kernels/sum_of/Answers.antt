use Rattle.std.proofs.Common.{◌≡◌, ◌+◌, ◌*◌, ◌^◌, ◌∙◌, ℤ, pos, ◌+ℤ◌, ap, sym, arith, take, fold, w32, w64}
use Rattle.std.specs.Int.{cast_signed, cast_unsigned}
use Rattle.std.proofs.lemmas.Int.{ints}
use Rattle.std.proofs.lemmas.List.Sums.{fold_more}
use Rattle.mesh_base.specs.Place.{Place}
use Rattle.mesh_base.specs.Kernel.{plus}
use Rattle.move_kernels.proofs.PlaceLaws.{Within, same_place, with_place, summed, widened}
use Rattle.move_kernels.proofs.kernels.sum_of.Goals as goal

pub loop-w-preserved : goal.loop-w-preserved
loop-w-preserved c =
    let inv = c.loop-w.invariant in
    let i = c.loop-w.w-index in
    let x = summed _ c.x.result i (omega arith) inv.1 c.x.ensures.in_range in
    let y = summed _ c.y.result i (omega arith) inv.2 c.y.ensures.in_range in
    let z = summed _ c.z.result i (omega arith) inv.3 c.z.ensures.in_range in
    let old = c.args.old.now in
    let near = c.args.near.now in
    let origin : Place = (pos 0, pos 0, pos 0) in (
      same_place _ _
          (x.0 ∙ ap (λ a. cast_signed w64 c.loop-w.x-bits +ℤ a) c.x.ensures.value)
          (y.0 ∙ ap (λ a. cast_signed w64 c.loop-w.y-bits +ℤ a) c.y.ensures.value)
          (z.0 ∙ ap (λ a. cast_signed w64 c.loop-w.z-bits +ℤ a) c.z.ensures.value)
          ∙ ap (λ s. plus s c.get-p.result) inv.0
          ∙ ap (plus (fold (with_place old) origin (take i near))) c.get-p.ensures
          ∙ sym (fold_more (with_place old) origin near i 0 c.loop-w-test.true),
      x.1,
      y.1,
      z.1,
    )
