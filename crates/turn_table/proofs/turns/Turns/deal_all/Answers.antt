use Rattle.std.proofs.Common.{rules, ◌≡◌, ◌+◌, ap, sym, ◌∙◌, subst, arith, length, ◌∷◌}
use Rattle.std.proofs.lemmas.Grind.{common_steps}
use Rattle.turn_table.specs.Views.{dealt}
use Rattle.turn_table.specs.Seats.{IsNew, EachSeat}
use Rattle.turn_table.proofs.Seating.{At, at_each, newcomer_is_new, new_more, new_first}
use Rattle.turn_table.proofs.Standings.{stands_new}
use Rattle.turn_table.proofs.turns.Turns.deal_all.Goals as goal

pub loop-number-preserved : goal.loop-number-preserved
loop-number-preserved g c = let inv = c.loop-number.invariant in let first = c.deal-seat.ensures.first in let new = c.deal-seat.ensures.new in let table = c.args.table.now.shared.table_id in let theme = g.T.Kept.theme c.args._value.now.value in
    let seat = c.deal-seat.result in let count : length c.loop-number.items.items + 1 ≡ c.loop-number.number = inv.2 in (
      first.0 ∙ inv.0,
      first.1 ∙ ap (λ m. (dealt m.0, m.1)) inv.1,
      (first_of (search rules, grind (arith, common_steps))),
      (first_of (search rules, grind (arith, common_steps))),
      subst (At (λ k s. IsNew table theme (k + 1) s)) (sym c.push_reserved.ensures.items)
          (new_more table theme c.loop-number.items.items seat inv.4 (newcomer_is_new table theme c.loop-number.first.me.0 seat _ _ (new.0 ∙ (inv.0 ∙ c.requires.table.0)) (ap (λ m. m.0) new.1) (ap (λ m. m.0) inv.1) count)),
    )

pub returns : goal.returns
returns g c = let inv = c.loop-number.invariant in let table = c.args.table.now.shared.table_id in let theme = g.T.Kept.theme c.args._value.now.value in let first = c.seated.result in
    let all : c.insert.new.self.items ≡ first ∷ c.loop-number.items.items = search rules in let is = c.seated.ensures in (
      (first_of (search rules, grind (arith, common_steps))),
      subst (EachSeat (IsNew table theme)) (sym all) (at_each (IsNew table theme) (first ∷ c.loop-number.items.items)
          (new_first table theme c.loop-number.items.items first inv.4 (stands_new table theme 0 _ first (ap (λ s. s.table_id) is ∙ (inv.0 ∙ c.requires.table.0)) (ap (λ s. s.me.0) is ∙ ap (λ m. m.0) inv.1)))),
    )
