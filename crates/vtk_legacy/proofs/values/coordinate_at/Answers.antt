use Rattle.std.proofs.Common.{sym, arith}
use Rattle.std.proofs.lemmas.Int.{ints}
use Rattle.oct_text.proofs.RangeLemmas.{coordinate-within}
use Rattle.vtk_legacy.proofs.values.coordinate_at.Goals as goal

pub new-requires : goal.new-requires
new-requires c =
    let h = coordinate-within c.args.text.now _ (sym c.in-Ok.ensures) in
    (omega (arith, ints, h.0, h.1), omega (arith, ints, h.0, h.1))
