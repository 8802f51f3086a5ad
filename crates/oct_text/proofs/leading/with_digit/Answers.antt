use Rattle.std.proofs.Common.{◌≡◌, ◌∙◌, sym, arith}
use Rattle.std.specs.Char.{digit_value}
use Rattle.oct_text.proofs.Digits.{digit_value-digit}
use Rattle.oct_text.proofs.ScanLemmas.{capped-big, capped-small}
use Rattle.oct_text.proofs.leading.with_digit.Goals as goal

pub returns-then-value-gt-LIMIT-clause-capped : goal.returns-then-value-gt-LIMIT-clause-capped
returns-then-value-gt-LIMIT-clause-capped c n h = capped-big n c.args.value (digit_value c.args.b) (omega arith) h

pub returns-else-value-gt-LIMIT-clause-capped : goal.returns-else-value-gt-LIMIT-clause-capped
returns-else-value-gt-LIMIT-clause-capped c n h =
    let d : c.from.result ≡ digit_value c.args.b = c.from.ensures ∙ sym (digit_value-digit c.args.b c.requires.digit) in
    rw d (capped-small n c.args.value (digit_value c.args.b) (omega arith) h)
