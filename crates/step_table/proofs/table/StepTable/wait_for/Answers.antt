use Rattle.std.proofs.Common.{rules, arith, ◌≡◌, ℕ, ◌+◌, ◌≤◌, List, ◌∷◌, ◌++◌, sym, subst, ap, ◌∙◌}
use Rattle.step_table.specs.Seats.{SessionView}
use Rattle.step_table.proofs.table.StepTable.wait_for.Goals as goal

pub loop-preserved : goal.loop-preserved
loop-preserved g c = let i = c.loop.invariant in let e = c.look.ensures in
    (search rules, search rules, (c.look.result.0 ∷ i.2.0, e.word ∙ ap (λ l. c.look.result.0 ∷ l) i.2.1), e.seat ∙ ap (λ (v : SessionView). let w : SessionView = record v { words = c.look.new.seat.words; known = c.look.new.seat.known } in w) i.3, omega arith)
