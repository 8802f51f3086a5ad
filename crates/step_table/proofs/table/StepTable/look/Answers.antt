use Rattle.std.proofs.Common.{rules, arith, ◌≡◌, ℕ, ◌/◌, ◌≤◌}
use Rattle.step_table.proofs.Words.{told_kept}
use Rattle.step_table.proofs.table.StepTable.look.Goals as goal

pub invariant_of-seat : goal.invariant_of-seat
invariant_of-seat c = told_kept _ _ _ _ _ _ c.peek-word.result c.seat.invariant c.peek-word.ensures.seat (λ k a b. let m = c.max-seat-inside.ensures in let n : c.in-Some.newest ≡ c.peek-word.result / 2 = c.in-Some.ensures in omega arith)

pub invariant_of-seat-in-None : goal.invariant_of-seat-in-None
invariant_of-seat-in-None c = told_kept _ _ _ _ _ _ c.peek-word.result c.seat.invariant c.peek-word.ensures.seat (λ k a b. a)
