use Rattle.std.proofs.Common.{sym, ◌∙◌, arith}
use Rattle.std.proofs.lemmas.List.Sums.{position_or_len_is}
use Rattle.vtk_legacy.specs.Version.{is_gap}
use Rattle.vtk_legacy.proofs.version.gap_place.Goals as goal

pub returns-then-is_gap_byte-clause-exact : goal.returns-then-is_gap_byte-clause-exact
returns-then-is_gap_byte-clause-exact c = sym (position_or_len_is is_gap c.args.text.now c.loop-i.i 0 (omega arith) c.loop-i.invariant (λ h. sym c.is_gap_byte.ensures ∙ c.if-is_gap_byte.true))

pub returns-clause-exact : goal.returns-clause-exact
returns-clause-exact c = sym (position_or_len_is is_gap c.args.text.now _ 0 (omega arith) (λ k h. c.loop-i.invariant k (omega arith)) (λ h. absurd (omega arith)))
