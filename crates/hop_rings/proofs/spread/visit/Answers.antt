use Rattle.std.proofs.Common.{◌<◌, length, get_or, Contains, refl, ap, subst, arith}
use Rattle.std.proofs.lemmas.List.Elements.{Contains-get_or}
use Rattle.mesh_base.proofs.NumberLaws.{of_neighbours}
use Rattle.hop_rings.proofs.Spreading.{spread_none, visit_more, visit_end}
use Rattle.hop_rings.proofs.spread.visit.Goals as goal

pub loop-w-init : goal.loop-w-init
loop-w-init c = spread_none _ c.args.from.now c.args.found.now.items (λ w lt. refl)

pub reach-requires : goal.reach-requires
reach-requires c =
    let near = c.neighbours-w-items.result.now in
    let i = c.loop-w.w-index in
    let lt : i < length near = omega arith in
    let p = (of_neighbours c.args.step.now.mesh c.args.u (get_or near i 0) (subst (λ l. Contains l (get_or near i 0)) c.neighbours-w-items.ensures (Contains-get_or near i 0 lt))).1 in
    omega (arith, p, c.requires.points, c.loop-w.auto.from)

pub loop-w-preserved : goal.loop-w-preserved
loop-w-preserved c =
    let near = c.neighbours-w-items.result.now in
    let i = c.loop-w.w-index in
    let e = c.neighbours-w-items.ensures in
    let lt : i < length near = omega arith in
    visit_more c.args.step.now.mesh c.args.u i (get_or near i 0) c.args.from.now c.loop-w.from c.args.found.now.items c.loop-w.found.items c.reach.new.from c.reach.new.found.items
    (subst (λ l. i < length l) e lt) (ap (λ l. get_or l i 0) e) c.requires.points c.loop-w.invariant c.in_ok-reach.ensures.from c.in_ok-reach.ensures.found

pub returns : goal.returns
returns c =
    let e = ap length c.neighbours-w-items.ensures in
    visit_end c.args.step.now.mesh c.args.u c.loop-w.w-index c.args.from.now c.loop-w.from c.args.found.now.items c.loop-w.found.items (omega (arith, e)) c.requires.points c.loop-w.invariant
