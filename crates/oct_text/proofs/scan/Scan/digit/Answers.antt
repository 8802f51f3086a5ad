use Rattle.std.proofs.Common.{◌≡◌, ◌∙◌, refl, sym, arith}
use Rattle.std.specs.Char.{digit_value}
use Rattle.oct_text.proofs.Digits.{digit_value-digit}
use Rattle.oct_text.proofs.ScanLemmas.{scan_before, capped-big, capped-small}
use Rattle.oct_text.proofs.scan.Scan.digit.Goals as goal

pub returns-then-self-gt-LIMIT : goal.returns-then-self-gt-LIMIT
returns-then-self-gt-LIMIT c place seen h =
    scan_before place seen c.args.b c.args.self _ h (omega arith) refl refl (λ n k. capped-big n c.args.self.value (digit_value c.args.b) (omega arith) k)

pub returns : goal.returns
returns c place seen h =
    let d : c.from.result ≡ digit_value c.args.b = c.from.ensures ∙ sym (digit_value-digit c.args.b c.requires) in
    scan_before place seen c.args.b c.args.self _ h (omega arith) refl refl (λ n k. rw d (capped-small n c.args.self.value (digit_value c.args.b) (omega arith) k))
