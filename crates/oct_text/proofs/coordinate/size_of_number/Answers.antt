use Rattle.std.proofs.Common.{arith}
use Rattle.oct_text.proofs.SpelledLemmas.{spelled_parts, not_spelled_parts, spelled_plain}
use Rattle.oct_text.proofs.coordinate.size_of_number.Goals as goal

pub returns-in-None-clause-exact : goal.returns-in-None-clause-exact
returns-in-None-clause-exact c =
    let h = c.exponent_of.ensures.none c.in-None.is in
    not_spelled_parts c.args.text.now c.in-Some.front.now c.in-Some.back.now c.in-Some.rest.now c.in-Some.ensures.some h.0 h.1

pub returns-in-Some-exponent_of-clause-exact : goal.returns-in-Some-exponent_of-clause-exact
returns-in-Some-exponent_of-clause-exact c =
    spelled_parts c.args.text.now c.in-Some.front.now c.in-Some.back.now c.in-Some.rest.now c.in-Some-exponent_of.e.negative c.in-Some-exponent_of.e.size c.with_exponent.result
    c.in-Some.ensures.some c.in-Some-exponent_of.ensures.some c.with_exponent.ensures.exact

pub returns-then-digits-gt0-clause-exact : goal.returns-then-digits-gt0-clause-exact
returns-then-digits-gt0-clause-exact c =
    let d = c.leading_digits-digits in
    spelled_plain c.args.text.now d.result.len d.result.value c.plain.result d.ensures.exact (omega arith) (omega arith) d.ensures.value c.plain.ensures.exact
