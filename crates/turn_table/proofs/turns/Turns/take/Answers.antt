use Rattle.std.proofs.Common.{ap, ◌∙◌, subst}
use Rattle.turn_table.specs.Views.{slots_of, staged, knowledge_of, Follows}
use Rattle.turn_table.specs.declared.view.Stage.TheVariants.{Served}
use Rattle.turn_table.proofs.Basics.{none_held}
use Rattle.turn_table.proofs.Standings.{table_is, rests_is, stands_taken, follows_on}
use Rattle.turn_table.proofs.turns.Turns.take.Goals as goal

pub draw-ticket-requires-clause-table : goal.draw-ticket-requires-clause-table
draw-ticket-requires-clause-table g c κs within = table_is c.args.seat.now _ c.requires.table

pub draw-ticket-requires-clause-idle : goal.draw-ticket-requires-clause-idle
draw-ticket-requires-clause-idle g c κs within = let seat = c.args.seat.now in let idle = rests_is seat c.requires.rests in (seat.live, idle, none_held _ (seat.holding ∙ ap slots_of idle))

pub wait_turn-value-requires-clause-table : goal.wait_turn-value-requires-clause-table
wait_turn-value-requires-clause-table g c κs within = c.draw-ticket.ensures.0 ∙ table_is c.args.seat.now _ c.requires.table

pub returns-clause-out : goal.returns-clause-out
returns-clause-out g c = let drawn = c.draw-ticket.ensures in let served = c.wait_turn-value.ensures.seat in
    stands_taken c.args.seat.now _ c.draw-ticket.result _ (served.0 ∙ drawn.0) (ap (λ m. m.0) served.1 ∙ ap (λ m. staged m.0 (Served c.draw-ticket.result (g.T.Kept.history c.wait_turn-value.result))) drawn.1)

pub returns-clause-value : goal.returns-clause-value
returns-clause-value g c = let value = c.wait_turn-value.result in
    follows_on _ c.args.seat.now value (subst (λ p. Follows g.T.Kept p value) (ap (λ m. knowledge_of m.0) c.draw-ticket.ensures.1) c.wait_turn-value.ensures.value.1)
