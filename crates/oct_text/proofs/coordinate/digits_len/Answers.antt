use Rattle.std.proofs.Common.{sym, ◌∙◌, arith}
use Rattle.std.proofs.lemmas.List.Sums.{prefix_len_is}
use Rattle.oct_text.specs.Numbers.{is_digit}
use Rattle.oct_text.proofs.coordinate.digits_len.Goals as goal

pub returns-then-not-is_digit_byte-clause-exact : goal.returns-then-not-is_digit_byte-clause-exact
returns-then-not-is_digit_byte-clause-exact c = sym (prefix_len_is is_digit c.args.text.now c.loop-i.i 0 (omega arith) c.loop-i.invariant (λ h. sym c.is_digit_byte.ensures ∙ c.if-not-is_digit_byte.true))

pub returns-clause-exact : goal.returns-clause-exact
returns-clause-exact c = sym (prefix_len_is is_digit c.args.text.now _ 0 (omega arith) (λ k h. c.loop-i.invariant k (omega arith)) (λ h. absurd (omega arith)))
