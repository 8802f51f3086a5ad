use Rattle.std.proofs.Common.{◌≡◌, ◌+◌, ◌-◌, ◌^◌, ◌∙◌, ◌++◌, [], length, take, sym, refl, arith}
use Rattle.std.specs.Str.Parse.{digits_value}
use Rattle.std.proofs.lemmas.Bool.{le-leb, lt-leb}
use Rattle.std.proofs.lemmas.List.{length-append}
use Rattle.oct_text.proofs.Quotient.{placed_at, not_placed, digits-joined}
use Rattle.oct_text.proofs.coordinate.sized.Goals as goal

pub returns-else-scan-clause-exact : goal.returns-else-scan-clause-exact
returns-else-scan-clause-exact c =
    let place = c.saturating_sub-place.result in
    let ds = c.args.front.now ++ c.args.back.now in
    let scans = c.digits-scan.ensures place c.args.front.now (c.digits.ensures place [] c.new.ensures) in
    let place-is : place ≡ length ds + c.args.up - c.args.down = omega (arith, c.saturating_sub-place.ensures, length-append c.args.front.now c.args.back.now) in
    let digits = digits-joined c.args.front.now c.args.back.now c.requires.front_digits c.requires.back_digits in
    sym (not_placed ds c.args.up c.args.down place digits place-is (sym scans.clean ∙ c.if-scan.false))

pub returns-then-value-gt-LIMIT-clause-exact : goal.returns-then-value-gt-LIMIT-clause-exact
returns-then-value-gt-LIMIT-clause-exact c =
    let place = c.saturating_sub-place.result in
    let ds = c.args.front.now ++ c.args.back.now in
    let scans = c.digits-scan.ensures place c.args.front.now (c.digits.ensures place [] c.new.ensures) in
    let place-is : place ≡ length ds + c.args.up - c.args.down = omega (arith, c.saturating_sub-place.ensures, length-append c.args.front.now c.args.back.now) in
    let digits = digits-joined c.args.front.now c.args.back.now c.requires.front_digits c.requires.back_digits in
    let capped = c.times_ten-value.ensures (digits_value 10 (take place ds)) scans.value in
    let h = placed_at ds c.args.up c.args.down place c.digits-scan.result.left c.times_ten-value.result c.digits-scan.result.clean digits place-is scans.left scans.clean capped in
    sym (h ∙ rw (c.if-scan.true, lt-leb c.times_ten-value.result (2 ^ 30) c.if-value-gt-LIMIT.true) refl)

pub returns-else-value-gt-LIMIT-clause-exact : goal.returns-else-value-gt-LIMIT-clause-exact
returns-else-value-gt-LIMIT-clause-exact c =
    let place = c.saturating_sub-place.result in
    let ds = c.args.front.now ++ c.args.back.now in
    let scans = c.digits-scan.ensures place c.args.front.now (c.digits.ensures place [] c.new.ensures) in
    let place-is : place ≡ length ds + c.args.up - c.args.down = omega (arith, c.saturating_sub-place.ensures, length-append c.args.front.now c.args.back.now) in
    let digits = digits-joined c.args.front.now c.args.back.now c.requires.front_digits c.requires.back_digits in
    let capped = c.times_ten-value.ensures (digits_value 10 (take place ds)) scans.value in
    let h = placed_at ds c.args.up c.args.down place c.digits-scan.result.left c.times_ten-value.result c.digits-scan.result.clean digits place-is scans.left scans.clean capped in
    sym (h ∙ rw (c.if-scan.true, le-leb c.times_ten-value.result (2 ^ 30) c.if-value-gt-LIMIT.false) refl)
