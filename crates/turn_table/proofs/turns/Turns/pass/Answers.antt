use Rattle.std.proofs.Common.{rules, ◌≡◌, ap, sym, ◌∙◌, [], ◌∷◌, Some}
use Rattle.atomic_table.specs.Table.{rest}
use Rattle.turn_table.specs.Views.{passed}
use Rattle.turn_table.proofs.Basics.{one_held, served_of}
use Rattle.turn_table.proofs.TurnSteps.{passes}
use Rattle.turn_table.proofs.turns.Turns.pass.Goals as goal

pub exchange-empty-requires : goal.exchange-empty-requires
exchange-empty-requires g c = let x = one_held _ c.requires.holds.1 in (search rules, (x.0, x.1 ∙ ap (λ l. (0, x.0) ∷ rest l) (sym x.1)))

pub fetch_add-requires : goal.fetch_add-requires
fetch_add-requires g c = let seat = c.args.seat.now in let x = one_held _ c.requires.holds.1 in
    let is : c.exchange-empty.new.seat.me ≡ (seat.me.0, (0, Some c.args.value) ∷ []) = c.exchange-empty.ensures.3 ∙ ap (λ l. (seat.me.0, (0, Some c.args.value) ∷ rest l)) x.1 in (
      search rules,
      search rules,
      passes _ _ _ _ _ c.args.value _ _ c.requires.entry.0 (ap (λ m. m.1) is) (ap (λ m. m.0.theme) is ∙ c.requires.theme) (ap (λ m. m.0.stage) is ∙ served_of _ c.requires.holds.0)
          (ap (λ m. m.0.others) is ∙ c.requires.holds.2) c.requires.entry.1 (c.requires.entry.2 ∙ sym (ap (λ m. m.0.number) is)) c.requires.fits,
    )

pub returns : goal.returns
returns g c = let seat = c.args.seat.now in let x = one_held _ c.requires.holds.1 in
    let is : c.exchange-empty.new.seat.me ≡ (seat.me.0, (0, Some c.args.value) ∷ []) = c.exchange-empty.ensures.3 ∙ ap (λ l. (seat.me.0, (0, Some c.args.value) ∷ rest l)) x.1 in
    (search rules, c.fetch_add.ensures.2 c.args.value (ap (λ m. m.1) is) ∙ ap (λ m. (passed m.0 (g.T.Kept.history c.args.value), [])) is)
