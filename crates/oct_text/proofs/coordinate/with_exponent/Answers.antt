use Rattle.std.proofs.Common.{◌≡◌, ◌≤◌, ℕ, ◌+◌, ◌*◌, ◌^◌, ◌∙◌, ◌++◌, length, min, ap, sym, arith}
use Rattle.std.specs.Str.Parse.{digits_value}
use Rattle.std.proofs.lemmas.List.{length-append}
use Rattle.oct_text.specs.Numbers.{whole_quotient}
use Rattle.oct_text.proofs.Quotient.{cap_down, cap_up, digits-joined}
use Rattle.oct_text.proofs.coordinate.with_exponent.Goals as goal

pub returns-then-e-clause-exact : goal.returns-then-e-clause-exact
returns-then-e-clause-exact c size e =
    let ds = c.args.front.now ++ c.args.back.now in
    let len : length ds ≤ 40 = omega (arith, length-append c.args.front.now c.args.back.now, c.requires.short) in
    let digits = digits-joined c.args.front.now c.args.back.now c.requires.front_digits c.requires.back_digits in
    rw c.if-e.true (c.sized.ensures.exact ∙ ap (λ (x : ℕ). whole_quotient (digits_value 10 ds * 10 ^ 0) (10 ^ (length c.args.back.now + x))) e ∙ cap_down ds size (length c.args.back.now) digits len)

pub returns-else-e-clause-exact : goal.returns-else-e-clause-exact
returns-else-e-clause-exact c size e =
    let ds = c.args.front.now ++ c.args.back.now in
    let none : length c.args.back.now + 0 ≡ length c.args.back.now = omega arith in
    rw c.if-e.false (c.sized-else-e.ensures.exact ∙ ap (λ (x : ℕ). whole_quotient (digits_value 10 ds * 10 ^ x) (10 ^ length c.args.back.now)) e
    ∙ ap (λ (x : ℕ). whole_quotient (digits_value 10 ds * 10 ^ min size 1000) (10 ^ x)) (sym none) ∙ cap_up (digits_value 10 ds) size (length c.args.back.now) (omega (arith, c.requires.short)))
