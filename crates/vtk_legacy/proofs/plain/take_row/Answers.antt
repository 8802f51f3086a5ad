use Rattle.std.proofs.Common.{subst}
use Rattle.oct_text.specs.Rest.{behind}
use Rattle.vtk_legacy.specs.Kept.{AreBelow}
use Rattle.vtk_legacy.proofs.AheadLemmas.{four_passes}
use Rattle.vtk_legacy.proofs.plain.take_row.Goals as goal

pub returns : goal.returns
returns c place =
    let ahead = c.in-Some.ahead in
    let four = c.in-Some-corners_below.ensures in
    let below = subst (λ n. AreBelow n ahead.values) c.number.ensures four.1 in
    let passes = four_passes c.args.more c.args.room place c.args.got.now c.args.tokens.now (behind ahead.len c.args.tokens.now) ahead.values c.requires c.if-room-lt5.false four.2 below c.in-Some.ensures.exact in
    rw (c.pass.ensures, c.in_ok-push_row.ensures.ok, four.0) passes
