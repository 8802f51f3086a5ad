use Rattle.std.proofs.Common.{ap, sym, ◌∙◌, ◌++◌, ◌∷◌, []}
use Rattle.turn_table.specs.Views.{slots_of}
use Rattle.turn_table.proofs.Basics.{served_of, empty_of}
use Rattle.turn_table.proofs.Standings.{table_is, theme_is, number_is, taken_is, out_is, stands_passed}
use Rattle.turn_table.proofs.turns.Turns.give.Goals as goal

pub pass-requires-clause-table : goal.pass-requires-clause-table
pass-requires-clause-table g c κs within = table_is c.args.seat.now _ c.requires.table

pub pass-requires-clause-holds : goal.pass-requires-clause-holds
pass-requires-clause-holds g c κs within = let seat = c.args.seat.now in let out = out_is seat c.args.turn c.requires.turn in (out, seat.holding ∙ ap slots_of (served_of _ out), empty_of _ seat.alone)

pub pass-requires-clause-theme : goal.pass-requires-clause-theme
pass-requires-clause-theme g c κs within = theme_is c.args.seat.now _ c.requires.theme

pub pass-requires-clause-entry : goal.pass-requires-clause-entry
pass-requires-clause-entry g c κs within = let seat = c.args.seat.now in let e = c.requires.entry in (e.0, e.1 ∙ ap (λ l. l ++ e.0 ∷ []) (sym (taken_is seat)), e.2 ∙ sym (number_is seat))

pub returns : goal.returns
returns g c = stands_passed c.args.seat.now _ _ c.pass.ensures.0 (ap (λ m. m.0) c.pass.ensures.1)
