use Rattle.std.proofs.Common.{◌≡◌, ◌<◌, ◌∙◌, sym, ap, length, arith, true}
use Rattle.oct_text.specs.Rest.{Rest}
use Rattle.oct_text.proofs.LineLemmas.{skips_lf, skips_end, skipped-as}
use Rattle.oct_text.proofs.tokens.Tokens.skip_line.Goals as goal

pub returns-then-len-left : goal.returns-then-len-left
returns-then-len-left c =
    let len-is = rw c.rest-rest.ensures at c.line_end-len.ensures.exact in
    let blank-is = rw c.rest-rest.ensures at c.all_blank-blank.ensures in
    let inside = rw c.rest-rest.ensures at c.if-len-left.true in
    rw (c.passed.ensures, blank-is) (skipped-as _ _ _ (skips_lf c.args.self.now c.line_end-len.result c.pass.new.self len-is inside c.pass.ensures))

pub returns : goal.returns
returns c =
    let len-is = rw c.rest-rest.ensures at c.line_end-len.ensures.exact in
    let blank-is = rw c.rest-rest.ensures at c.all_blank-blank-2.ensures in
    let within = rw c.rest-rest.ensures at c.line_end-len.ensures.within in
    let to_end = rw c.rest-rest.ensures at c.if-len-left.false in
    let some : 0 < length c.args.self.now.bytes = let ne = rw c.rest-rest.ensures at c.if-left-eq0.false in omega (arith, ne) in
    let ended : c.args.self.now.ended ≡ true = sym (ap (λ (r : Rest). r.ended) c.self.view_is) ∙ c.if-not-self.false in
    rw (c.passed-2.ensures, blank-is) (skipped-as _ _ _ (skips_end c.args.self.now c.line_end-len.result c.pass-2.new.self len-is within to_end ended some c.pass-2.ensures))
