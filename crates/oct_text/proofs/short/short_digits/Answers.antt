use Rattle.std.proofs.Common.{◌≡◌, get_or, true, sym, ◌∙◌, arith, below_more}
use Rattle.std.specs.Char.{digit_value}
use Rattle.std.proofs.lemmas.List.Sums.{prefix_len_is}
use Rattle.std.proofs.lemmas.Int.Digits.{digits_value_more}
use Rattle.std.proofs.lemmas.Grind.{pow_more}
use Rattle.oct_text.specs.Numbers.{is_digit}
use Rattle.oct_text.proofs.Digits.{digit_value-digit, digit-small}
use Rattle.oct_text.proofs.short.short_digits.Goals as goal

pub loop-i-preserved : goal.loop-i-preserved
loop-i-preserved c =
    let b = get_or c.args.text.now c.loop-i.i 0 in
    let here : is_digit b ≡ true = sym c.is_digit_byte.ensures ∙ c.if-not-is_digit_byte.false in
    let d : c.from.result ≡ digit_value b = c.from.ensures ∙ sym (digit_value-digit b here) in
    let more = digits_value_more 10 c.args.text.now c.loop-i.i c.loop-i-test.true in
    record {
      digits = below_more _ _ c.loop-i.invariant.digits here;
      value = omega (arith, c.loop-i.invariant.value, d, more);
      small = omega (arith, c.loop-i.invariant.small, c.from.ensures, digit-small b here, pow_more 10 c.loop-i.i);
    }

pub returns-then-not-is_digit_byte-clause-exact : goal.returns-then-not-is_digit_byte-clause-exact
returns-then-not-is_digit_byte-clause-exact c = sym (prefix_len_is is_digit c.args.text.now c.loop-i.i 0 (omega arith) c.loop-i.invariant.digits (λ h. sym c.is_digit_byte.ensures ∙ c.if-not-is_digit_byte.true))

pub returns-clause-exact : goal.returns-clause-exact
returns-clause-exact c = sym (prefix_len_is is_digit c.args.text.now _ 0 (omega arith) (λ k h. c.loop-i.invariant.digits k (omega arith)) (λ h. absurd (omega arith)))
