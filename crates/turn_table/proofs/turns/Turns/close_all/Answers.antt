use Rattle.std.proofs.Common.{rules, refl, ap, sym, ◌∙◌, ◌∷◌}
use Rattle.std.specs.Prelude.{is_some}
use Rattle.turn_table.specs.Views.{slots_of}
use Rattle.turn_table.proofs.Basics.{some_of, none_held, empty_of}
use Rattle.turn_table.proofs.SeatSteps.{joins}
use Rattle.turn_table.proofs.Seating.{at_each, each_seated, first_back, gathered, last_back, begins_gathering, goes_on_gathering, has_all, each_goes_on}
use Rattle.turn_table.proofs.turns.Turns.close_all.Goals as goal

pub loop-seat-init : goal.loop-seat-init
loop-seat-init g c = let s = c.remove-first.result in let b = first_back _ s.seat.me.0 _ s c.args.self.seats c.requires.all c.args.self.some_seat c.remove-first.ensures.value (each_seated _ _ c.requires.back) in
    begins_gathering _ s.seat.me.0 _ c.remove-first.new.self.items s s.seat.table_id s.seat.me (b.0 ∙ ap (λ l. s ∷ l) (sym c.remove-first.ensures.items)) b.1.0
    (ap (λ h. (s.seat.me.0, h)) (none_held s.seat.me.1 (s.holding ∙ ap slots_of b.1.2))) (empty_of s.seat.me.0.others s.alone)

pub join_seat-requires : goal.join_seat-requires
join_seat-requires g c = let go = c.loop-seat.invariant in let s = c.in-Some.field-0 in let start = c.remove-first.result in
    let back = last_back _ _ _ c.loop-seat.items.items c.pop.new.self.items s _ _ c.in-Some.ensures.items (each_seated _ _ c.requires.back) go in let h = some_of _ start.live in let h' = some_of _ s.live in (
      go.same,
      back.0,
      none_held s.seat.me.1 (s.holding ∙ ap slots_of back.2),
      search rules,
      joins _ _ _ _ _ _ h.0 h'.0 (ap (λ m. m.0.theme) go.view_is ∙ h.1) h'.1 back.2,
    )

pub loop-seat-preserved : goal.loop-seat-preserved
loop-seat-preserved g c = goes_on_gathering _ _ _ c.loop-seat.items.items c.pop.new.self.items c.in-Some.field-0 _ _ _ _ c.in-Some.ensures.items c.join_seat.ensures.0 c.join_seat.ensures.2 c.loop-seat.invariant

pub open-requires-clause-first : goal.open-requires-clause-first
open-requires-clause-first g c κs within = let go = c.loop-seat.invariant in let s = c.remove-first.result in
    let b = first_back _ s.seat.me.0 _ s c.args.self.seats c.requires.all c.args.self.some_seat c.remove-first.ensures.value (each_seated _ _ c.requires.back) in
    (go.same, ap (λ m. is_some m.0.theme) go.view_is ∙ s.live, ap (λ m. m.0.stage) go.view_is ∙ b.1.2)

pub open-requires-clause-all : goal.open-requires-clause-all
open-requires-clause-all g c κs within = let s = c.remove-first.result in
    let b = first_back _ s.seat.me.0 _ s c.args.self.seats c.requires.all c.args.self.some_seat c.remove-first.ensures.value (each_seated _ _ c.requires.back) in
    has_all _ s.seat.me.0 _ c.args.self.seats c.loop-seat.first.table_id c.loop-seat.first.me c.requires.all (each_seated _ _ c.requires.back) b.1.1 (gathered _ _ _ c.loop-seat.items.items _ _ (search rules) c.loop-seat.invariant)

pub returns-clause-seats : goal.returns-clause-seats
returns-clause-seats g c = let s = c.remove-first.result in
    let b = first_back _ s.seat.me.0 _ s c.args.self.seats c.requires.all c.args.self.some_seat c.remove-first.ensures.value (each_seated _ _ c.requires.back) in
    at_each _ _ (each_goes_on _ s.seat.me.0 _ g.T.Kept c.args.self.seats c.open.result s _ _ _ b.0 refl (gathered _ _ _ c.loop-seat.items.items _ _ (search rules) c.loop-seat.invariant) c.open.ensures)
