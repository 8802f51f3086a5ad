use Rattle.std.proofs.Common.{◌≡◌, ◌+◌, ◌*◌, [], drop, get_or, arith}
use Rattle.std.specs.Char.{digit_value}
use Rattle.std.proofs.lemmas.List.{drop_all}
use Rattle.oct_text.proofs.Digits.{after-ge, after-drop}
use Rattle.oct_text.proofs.numbers.value_of.Goals as goal

pub returns-in-None : goal.returns-in-None
returns-in-None c =
    λ fits. c.in-None.ensures (omega (
      arith,
      c.loop-b.invariant.0,
      after-drop c.loop-b.value c.loop-b.b-index c.args.digits.now c.loop-b-test.true,
      after-ge (c.loop-b.value * 10 + digit_value (get_or c.args.digits.now c.loop-b.b-index 0)) (drop (c.loop-b.b-index + 1) c.args.digits.now),
    ))

pub returns : goal.returns
returns c =
    let nothing : drop c.loop-b.b-index c.args.digits.now ≡ [] = drop_all c.loop-b.b-index c.args.digits.now (omega arith) in
    let same = rw nothing at c.loop-b.invariant.0 in
    (omega (arith, c.loop-b.invariant.1, same), same)
