use Rattle.std.proofs.Common.{rules, ap, sym, ◌∙◌, ◌∷◌, Some}
use Rattle.atomic_table.specs.Table.{rest}
use Rattle.turn_table.specs.Views.{ticket_of}
use Rattle.turn_table.proofs.Basics.{some_of}
use Rattle.turn_table.proofs.TurnSteps.{looks}
use Rattle.turn_table.proofs.turns.Turns.wait_turn.Goals as goal

pub load-serving-requires : goal.load-serving-requires
load-serving-requires g c = let same = c.loop.invariant.3 in let h = some_of _ c.requires.waits.0 in
    (search rules, search rules, looks _ _ _ _ _ h.0 c.args.ticket (ap (λ m. m.0.theme) same ∙ h.1) (ap (λ m. m.0.stage) same ∙ c.requires.waits.1))

pub exchange-requires : goal.exchange-requires
exchange-requires g c = let t = c.load-serving.ensures.2.0 (c.if-serving-ticket.true ∙ sym (ap (λ m. ticket_of m.0.stage) c.loop.invariant.3 ∙ ap ticket_of c.requires.waits.1)) in (search rules, (Some t.0, ap (λ m. m.1) t.1 ∙ ap (λ l. (0, Some t.0) ∷ rest l) (sym (ap (λ m. m.1) t.1))))
