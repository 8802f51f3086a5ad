use Rattle.std.proofs.Common.{◌≡◌, ℕ, [], get_or, take, sum_by}
use Rattle.cell_box.specs.Often.{times}
use Rattle.cell_box.proofs.select.gather.Given as goal

abbrev pub invariant-loop-v : goal.invariant-loop-v
invariant-loop-v l = (i : ℕ) → times l.found.items i ≡ sum_by (λ v. times (get_or l.incidence v []) i) (take l.v-index l.inside)
