use Rattle.std.proofs.Common.{sym, ◌∙◌, arith}
use Rattle.std.proofs.lemmas.List.Sums.{position_or_len_is}
use Rattle.oct_text.specs.Numbers.{is_point}
use Rattle.vtk_legacy.proofs.version.point_place.Goals as goal

pub returns-then-is_point_byte-clause-exact : goal.returns-then-is_point_byte-clause-exact
returns-then-is_point_byte-clause-exact c = sym (position_or_len_is is_point c.args.text.now c.loop-i.i 0 (omega arith) c.loop-i.invariant (λ h. sym c.is_point_byte.ensures ∙ c.if-is_point_byte.true))

pub returns-clause-exact : goal.returns-clause-exact
returns-clause-exact c = sym (position_or_len_is is_point c.args.text.now _ 0 (omega arith) (λ k h. c.loop-i.invariant k (omega arith)) (λ h. absurd (omega arith)))
