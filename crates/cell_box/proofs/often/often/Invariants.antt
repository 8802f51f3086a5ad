use Rattle.std.proofs.Common.{◌≡◌, ℕ, ◌+◌, ◌≤◌, get_or, take}
use Rattle.mesh_base.specs.Numbers.{IsListOf}
use Rattle.cell_box.specs.Often.{times}
use Rattle.cell_box.proofs.often.often.Given as goal

abbrev pub invariant-loop-k : goal.invariant-loop-k
invariant-loop-k l = record {
  run : (j : ℕ) → l.k ≡ j + 1 → l.run ≡ times (take l.k l.numbers) (get_or l.numbers j 0);
  list : IsListOf (λ i. l.least ≤ times (take l.k l.numbers) i) l.found.items;
}
