use Rattle.std.proofs.Common.{◌≡◌, ◌+◌, ◌*◌, ◌∙◌, ap, sym, drop, get_or, min, ℕ, arith}
use Rattle.std.specs.Char.{digit_value}
use Rattle.oct_text.proofs.Digits.{min_after, after-drop, digit_value-digit, digit-at}
use Rattle.oct_text.proofs.coordinate.capped.Goals as goal

pub loop-b-preserved : goal.loop-b-preserved
loop-b-preserved c =
    let b = get_or c.args.digits.now c.loop-b.b-index 0 in
    let d : c.from.result ≡ digit_value b = c.from.ensures ∙ sym (digit_value-digit b (digit-at c.args.digits.now c.loop-b.b-index c.requires c.loop-b-test.true)) in
    let value : c.min-value.result ≡ min (c.loop-b.value * 10 + digit_value b) 1000 = c.min-value.ensures ∙ ap (λ (x : ℕ). min (c.loop-b.value * 10 + x) 1000) d in (
      rw value (min_after (c.loop-b.value * 10 + digit_value b) (drop (c.loop-b.b-index + 1) c.args.digits.now))
          ∙ ap (λ (x : ℕ). min x 1000) (sym (after-drop c.loop-b.value c.loop-b.b-index c.args.digits.now c.loop-b-test.true)) ∙ c.loop-b.invariant.0,
      omega (arith, value),
    )
