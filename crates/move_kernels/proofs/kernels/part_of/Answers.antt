use Rattle.std.proofs.Common.{◌≡◌, ◌^◌, ◌*ℤ◌, sym, subst, arith, w64}
use Rattle.std.proofs.lemmas.Int.{to_z-of_z, fits_signed_mul}
use Rattle.move_kernels.proofs.PlaceLaws.{Within, to_abs, floor_small, product_small}
use Rattle.move_kernels.proofs.kernels.part_of.Goals as goal

pub returns-clause-small : goal.returns-clause-small
returns-clause-small c =
    let way = c.args.way in
    let num = c.args.num in
    let den = c.args.den in
    let fits = fits_signed_mul w64 way num (2 ^ 31) (2 ^ 31) (to_abs way (2 ^ 31) c.requires.way) (to_abs num (2 ^ 31) c.requires.num) (omega arith) in
    let e = rw (to_z-of_z w64 way c.ranges.way, to_z-of_z w64 num c.ranges.num, to_z-of_z w64 den c.ranges.den, to_z-of_z w64 (way *ℤ num) fits) at c.div_euclid.ensures in
    let small = floor_small (way *ℤ num) den (2 ^ 62) c.requires.den (product_small way num (2 ^ 31) (2 ^ 31) c.requires.way c.requires.num) in
    rw (to_z-of_z w64 c.div_euclid.result (record { sfits = c.div_euclid.type_inv })) (subst (Within (2 ^ 62)) (sym e) small)
