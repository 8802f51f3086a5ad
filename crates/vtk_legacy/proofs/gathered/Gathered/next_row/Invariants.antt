use Rattle.std.proofs.Common.{◌≡◌, ◌≤◌, ◌-◌, length, drop}
use Rattle.vtk_legacy.specs.Kept.{with_next, next_size}
use Rattle.vtk_legacy.proofs.GatheredLemmas.{parts_at}
use Rattle.vtk_legacy.proofs.gathered.Gathered.next_row.Given as goal

abbrev pub invariant-loop-self : goal.invariant-loop-self
invariant-loop-self l =
    let t = l.self-inside in
    (t.begun ≤ length t.sizes.items) × (with_next (parts_at t.form t.number t.points.items t.sizes.items t.begun t.table) ≡ with_next l.fn.self) × (next_size (drop t.begun t.sizes.items) ≡ next_size l.fn.self.sizes)

abbrev pub decreases-loop-self : goal.decreases-loop-self
decreases-loop-self l = length l.self-inside.sizes.items - l.self-inside.begun
