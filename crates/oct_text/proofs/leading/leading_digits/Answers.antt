use Rattle.std.proofs.Common.{◌≡◌, get_or, true, sym, ◌∙◌, arith, below_more}
use Rattle.std.proofs.lemmas.List.Sums.{prefix_len_is}
use Rattle.oct_text.specs.Numbers.{is_digit}
use Rattle.oct_text.proofs.ScanLemmas.{capped_more}
use Rattle.oct_text.proofs.leading.leading_digits.Goals as goal

pub loop-i-preserved : goal.loop-i-preserved
loop-i-preserved c =
    let here : is_digit (get_or c.args.text.now c.loop-i.i 0) ≡ true = sym c.is_digit_byte.ensures ∙ c.if-not-is_digit_byte.false in
    record {
      digits = below_more _ _ c.loop-i.invariant.digits here;
      value = capped_more c.args.text.now c.loop-i.i c.loop-i.value c.with_digit-value.result (omega arith) c.loop-i.invariant.value c.with_digit-value.ensures.capped;
      bounded = c.with_digit-value.ensures.bounded;
    }

pub returns-then-not-is_digit_byte-clause-exact : goal.returns-then-not-is_digit_byte-clause-exact
returns-then-not-is_digit_byte-clause-exact c = sym (prefix_len_is is_digit c.args.text.now c.loop-i.i 0 (omega arith) c.loop-i.invariant.digits (λ h. sym c.is_digit_byte.ensures ∙ c.if-not-is_digit_byte.true))

pub returns-clause-exact : goal.returns-clause-exact
returns-clause-exact c = sym (prefix_len_is is_digit c.args.text.now _ 0 (omega arith) (λ k h. c.loop-i.invariant.digits k (omega arith)) (λ h. absurd (omega arith)))
