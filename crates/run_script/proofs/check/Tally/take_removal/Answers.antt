use Rattle.std.proofs.Common.{sym, ◌∙◌}
use Rattle.run_script.proofs.CheckLemmas.{removed, remove-none}
use Rattle.run_script.proofs.check.Tally.take_removal.Goals as goal

pub returns : goal.returns
returns c = λ mesh m. (remove-none mesh c.args.cell (sym (c.is_live.ensures mesh m) ∙ c.if-not-is_live.false), removed mesh _ _ c.args.cell m c.remove.ensures.points c.remove.ensures.live)
