use Rattle.std.proofs.Common.{rules, arith, ◌≡◌, ℕ, ◌+◌, ◌<◌, List, [], ◌∷◌, ◌++◌, length, drop, sym, subst, ap, ◌∙◌, append_assoc, length-append}
use Rattle.step_table.proofs.Ending.{head_is, seats_more}
use Rattle.step_table.proofs.table.gather.Goals as goal

pub loop-preserved : goal.loop-preserved
loop-preserved c =
    let i = c.loop.invariant in let before = i.0 in let seats = i.1 in let v = c.remove.result in let s = c.seat.inside.seat in
    let test = c.loop-test.true in let n = i.5 in let m = i.6 in
    let some : 0 < length c.loop.items.items = omega arith in
    let cut : c.loop.items.items ≡ v ∷ c.remove.new.self.items = head_is c.loop.items.items v some ∙ (ap (λ x. x ∷ drop 1 c.loop.items.items) (sym c.remove.ensures.value) ∙ ap (λ l. v ∷ l) (sym c.remove.ensures.items)) in
    let less : length c.loop.items.items ≡ length c.remove.new.self.items + 1 = ap length cut ∙ omega arith in
    let more : length c.push_reserved.new.self.items ≡ length c.loop.room.items + 1 = ap length c.push_reserved.ensures.items ∙ length-append c.loop.room.items (s ∷ []) in (
      before ++ v ∷ [],
      seats ++ s ∷ [],
      i.2 ∙ (ap (λ l. before ++ l) cut ∙ sym (append_assoc before (v ∷ []) c.remove.new.self.items)),
      c.push_reserved.ensures.items ∙ (ap (λ l. l ++ s ∷ []) i.3 ∙ append_assoc c.args.room.now.items seats (s ∷ [])),
      seats_more seats before s v i.4 (record { me = c.seat.inside.session; known = c.seat.inside.known; done = c.seat.inside.done; view = c.seat.view_is; session = c.seat.invariant }),
      omega arith,
      omega arith,
      c.push_reserved.ensures.capacity ∙ i.7,
    )
