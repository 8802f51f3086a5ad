use Rattle.std.proofs.Common.{arith}
use Rattle.oct_text.specs.Rest.{behind}
use Rattle.vtk_legacy.proofs.AheadLemmas.{number_passes}
use Rattle.vtk_legacy.proofs.plain.take_number.Goals as goal

pub returns : goal.returns
returns c =
    let ahead = c.in-Some.ahead in
    rw (c.pass.ensures, c.in_ok-after.ensures.ok, c.in_ok-after.ensures.filling)
    (number_passes c.args.more ahead.value c.args.filling c.args.got.now c.args.tokens.now (behind ahead.len c.args.tokens.now) c.requires (omega (arith, c.number.ensures)) c.in-Some.ensures.exact)
