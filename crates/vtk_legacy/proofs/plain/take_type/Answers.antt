use Rattle.std.proofs.Common.{subst}
use Rattle.oct_text.specs.Rest.{behind}
use Rattle.oct_text.specs.Ahead.{TakesCount}
use Rattle.vtk_legacy.proofs.AheadLemmas.{ten_passes}
use Rattle.vtk_legacy.proofs.plain.take_type.Goals as goal

pub returns-clause-yes : goal.returns-clause-yes
returns-clause-yes c h =
    let ahead = c.in-Some.ahead in
    let count = subst (λ n. TakesCount c.args.tokens.now n (behind ahead.len c.args.tokens.now)) c.if-ahead-ne-TETRAHEDRON.false c.in-Some.ensures.exact in
    let kept = c.keep_first.ensures.yes c.if-not-keep_first.false in
    rw (c.pass.ensures, kept.0) (ten_passes c.args.more c.args.got.now c.args.tokens.now (behind ahead.len c.args.tokens.now) c.requires kept.1 kept.2 count)
