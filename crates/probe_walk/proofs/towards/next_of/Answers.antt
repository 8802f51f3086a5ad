use Rattle.std.proofs.Common.{Contains, subst, sym}
use Rattle.std.specs.List.Sorted.{IsStrictlyIncreasing}
use Rattle.mesh_base.proofs.Ascending.{Contains-from_In}
use Rattle.mesh_base.proofs.NumberLaws.{of_neighbours}
use Rattle.mesh_base.proofs.WalkLaws.{nearest_In}
use Rattle.probe_walk.proofs.EndLaws.{increasing_neighbours}
use Rattle.probe_walk.proofs.towards.next_of.Goals as goal

pub nearest_of-requires : goal.nearest_of-requires
nearest_of-requires g c = record { ascending = subst IsStrictlyIncreasing (sym c.neighbours.ensures) (increasing_neighbours c.args.step.now.mesh c.args.v); points = λ w m. (of_neighbours c.args.step.now.mesh c.args.v w (subst (λ l. Contains l w) c.neighbours.ensures m)).1 }

pub returns-then-near-below-clause-point : goal.returns-then-near-below-clause-point
returns-then-near-below-clause-point g c =
    let w = c.in_ok-near.near.vertex in
    let m = Contains-from_In c.neighbours.result.now w (nearest_In c.args.step.now.mesh c.args.area.now c.neighbours.result.now w (sym c.in_ok-near.ensures.best.vertex)) in
    (of_neighbours c.args.step.now.mesh c.args.v w (subst (λ l. Contains l w) c.neighbours.ensures m)).1
