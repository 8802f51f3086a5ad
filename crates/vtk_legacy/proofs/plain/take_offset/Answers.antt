use Rattle.std.proofs.Common.{arith}
use Rattle.oct_text.specs.Rest.{behind}
use Rattle.vtk_legacy.proofs.AheadLemmas.{offset_passes}
use Rattle.vtk_legacy.proofs.plain.take_offset.Goals as goal

pub returns : goal.returns
returns c =
    let ahead = c.in-Some.ahead in
    rw (c.pass.ensures, c.in_ok-push_size.ensures.ok)
    (offset_passes c.args.more c.args.before c.args.numbers ahead.value c.args.got.now c.args.tokens.now (behind ahead.len c.args.tokens.now) c.requires (omega arith) (omega arith) (omega arith) c.in-Some.ensures.exact)
