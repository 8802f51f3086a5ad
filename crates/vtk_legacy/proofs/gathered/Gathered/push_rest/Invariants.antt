use Rattle.std.proofs.Common.{◌≡◌, ◌≤◌, ◌-◌, length, drop, map}
use Rattle.vtk_legacy.specs.Kept.{with_filled, bare}
use Rattle.vtk_legacy.proofs.GatheredLemmas.{parts_at}
use Rattle.vtk_legacy.proofs.gathered.Gathered.push_rest.Given as goal

abbrev pub invariant-loop-self : goal.invariant-loop-self
invariant-loop-self l =
    let t = l.self-inside in
    (t.begun ≤ length t.sizes.items) × (with_filled (map bare (drop t.begun t.sizes.items)) (parts_at t.form t.number t.points.items t.sizes.items t.begun t.table) ≡ with_filled (map bare l.fn.self.sizes) l.fn.self)

abbrev pub decreases-loop-self : goal.decreases-loop-self
decreases-loop-self l = length l.self-inside.sizes.items - l.self-inside.begun
