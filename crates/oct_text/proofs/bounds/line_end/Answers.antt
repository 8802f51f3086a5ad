use Rattle.std.proofs.Common.{sym, arith, eq-eqb}
use Rattle.std.proofs.lemmas.List.Sums.{position_or_len_is, fails_before_first}
use Rattle.oct_text.specs.Rest.{is_lf}
use Rattle.oct_text.proofs.bounds.line_end.Goals as goal

pub loop-i-init : goal.loop-i-init
loop-i-init c = λ k lt. fails_before_first is_lf c.args.bytes.now k 0 (omega (arith, c.requires))

pub returns-then-bytes-i-eq10-clause-exact : goal.returns-then-bytes-i-eq10-clause-exact
returns-then-bytes-i-eq10-clause-exact c = sym (position_or_len_is is_lf c.args.bytes.now c.loop-i.i 0 (omega arith) c.loop-i.invariant (λ h. eq-eqb _ _ c.if-bytes-i-eq10.true))

pub returns-clause-exact : goal.returns-clause-exact
returns-clause-exact c = sym (position_or_len_is is_lf c.args.bytes.now _ 0 (omega arith) (λ k h. c.loop-i.invariant k (omega arith)) (λ h. absurd (omega arith)))
