use Rattle.std.proofs.Common.{w32}
use Rattle.std.proofs.lemmas.Int.{to_z-of_z}
use Rattle.oct_text.proofs.RangeLemmas.{whole_fits}
use Rattle.oct_text.specs.Rest.{behind}
use Rattle.vtk_legacy.proofs.AheadLemmas.{point_passes}
use Rattle.vtk_legacy.proofs.plain.take_point.Goals as goal

pub returns : goal.returns
returns c =
    let ahead = c.in-Some.ahead in
    let h = c.in-Some.ensures.exact in
    let x = whole_fits h.1.token.text ahead.x h.1.value in
    let y = whole_fits h.2.1.token.text ahead.y h.2.1.value in
    let z = whole_fits h.2.2.1.token.text ahead.z h.2.2.1.value in
    let passes = point_passes c.args.more c.args.got.now c.args.tokens.now (behind ahead.len c.args.tokens.now) ahead.x ahead.y ahead.z c.requires h in
    let point = rw (to_z-of_z w32 ahead.x x, to_z-of_z w32 ahead.y y, to_z-of_z w32 ahead.z z) at c.in-Some-new.ensures in
    rw (c.pass.ensures, c.in_ok-push_point.ensures.ok, point.1) passes
