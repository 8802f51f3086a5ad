use Rattle.std.proofs.Common.{rules, ap, ◌∙◌}
use Rattle.turn_table.proofs.Basics.{some_of}
use Rattle.turn_table.proofs.TurnSteps.{draws}
use Rattle.turn_table.proofs.turns.Turns.draw.Goals as goal

pub compare_exchange-requires : goal.compare_exchange-requires
compare_exchange-requires g c = let same = c.loop.invariant.3 in let h = some_of _ c.requires.idle.0 in
    (search rules, search rules, draws _ _ _ _ _ h.0 _ (ap (λ m. m.0.theme) same ∙ h.1) (ap (λ m. m.0.stage) same ∙ c.requires.idle.1) (search rules))
