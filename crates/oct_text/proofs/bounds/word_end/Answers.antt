use Rattle.std.proofs.Common.{sym, ◌∙◌, arith}
use Rattle.std.proofs.lemmas.List.Sums.{position_or_len_is, fails_before_first}
use Rattle.oct_text.specs.Rest.{is_blank}
use Rattle.oct_text.proofs.bounds.word_end.Goals as goal

pub loop-i-init : goal.loop-i-init
loop-i-init c = λ k lt. fails_before_first is_blank c.args.bytes.now k 0 (omega (arith, c.requires))

pub returns-then-is_blank_byte-clause-exact : goal.returns-then-is_blank_byte-clause-exact
returns-then-is_blank_byte-clause-exact c = sym (position_or_len_is is_blank c.args.bytes.now c.loop-i.i 0 (omega arith) c.loop-i.invariant (λ h. sym c.is_blank_byte.ensures ∙ c.if-is_blank_byte.true))

pub returns-clause-exact : goal.returns-clause-exact
returns-clause-exact c = sym (position_or_len_is is_blank c.args.bytes.now _ 0 (omega arith) (λ k h. c.loop-i.invariant k (omega arith)) (λ h. absurd (omega arith)))
