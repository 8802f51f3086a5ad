use Rattle.std.proofs.Common.{[], ◌<◌, length, get_or, refl, sym, subst, arith}
use Rattle.std.proofs.lemmas.List.{take_all}
use Rattle.std.proofs.lemmas.List.Elements.{Contains-get_or}
use Rattle.hop_rings.specs.Reached.{IsSpread, first_near}
use Rattle.hop_rings.proofs.Spreading.{spread_none, visit_next}
use Rattle.hop_rings.proofs.spread.visit_all.Goals as goal

pub loop-u-init : goal.loop-u-init
loop-u-init c =
    subst (λ m. IsSpread (first_near c.args.step.now.mesh []) c.args.from.now c.args.from.now [] m) (sym c.requires.empty)
    (spread_none (first_near c.args.step.now.mesh []) c.args.from.now [] (λ w lt. refl))

pub visit-requires-clause-point : goal.visit-requires-clause-point
visit-requires-clause-point c =
    let lt : c.loop-u.u-index < length c.args.ring.now = omega arith in
    c.requires.ring (get_or c.args.ring.now c.loop-u.u-index 0) (Contains-get_or c.args.ring.now c.loop-u.u-index 0 lt)

pub loop-u-preserved : goal.loop-u-preserved
loop-u-preserved c =
    let lt : c.loop-u.u-index < length c.args.ring.now = omega arith in
    visit_next c.args.step.now.mesh c.args.ring.now c.loop-u.u-index c.args.from.now c.loop-u.from c.visit.new.from c.loop-u.found.items c.visit.new.found.items lt c.loop-u.invariant c.in_ok-visit.ensures

pub returns : goal.returns
returns c =
    subst (λ l. IsSpread (first_near c.args.step.now.mesh l) c.args.from.now c.loop-u.from [] c.loop-u.found.items)
    (take_all c.loop-u.u-index c.args.ring.now (omega arith)) c.loop-u.invariant
