use Rattle.std.proofs.Common.{◌≡◌, ◌-ℤ◌, arith, w64}
use Rattle.std.specs.Int.{cast_signed, cast_unsigned}
use Rattle.std.proofs.lemmas.Int.{ints}
use Rattle.move_kernels.proofs.PlaceLaws.{widened}
use Rattle.move_kernels.proofs.kernels.pulled_to.Goals as goal

pub returns : goal.returns
returns c =
    let to = c.args.to in
    let x = c.args.c in
    let way : cast_signed w64 (cast_unsigned w64 (to -ℤ x)) ≡ to -ℤ x = omega (arith, ints, c.requires.to.0, c.requires.to.1, c.requires.c.0, c.requires.c.1) in
    let e = rw (widened to c.ranges.to, widened x c.ranges.c, widened c.args.num c.ranges.num, widened c.args.den c.ranges.den, way) at c.part_of.ensures.value in
    rw (widened x c.ranges.c) (omega (arith, ints, e, c.part_of.ensures.small.0, c.part_of.ensures.small.1, c.requires.c.0, c.requires.c.1))
