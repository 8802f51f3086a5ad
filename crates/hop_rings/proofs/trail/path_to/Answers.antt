use Rattle.std.proofs.Common.{sym, subst}
use Rattle.hop_rings.specs.Rings.{IsTrail}
use Rattle.hop_rings.proofs.Trails.{trail_shortest}
use Rattle.hop_rings.proofs.trail.path_to.Goals as goal

pub returns-in_ok-trail_to-in-Some-clause-shortest : goal.returns-in_ok-trail_to-in-Some-clause-shortest
returns-in_ok-trail_to-in-Some-clause-shortest c mesh vs are = trail_shortest mesh vs c.args.rings.now are c.args.v c.of.result (subst (IsTrail c.args.rings.now c.args.v) (sym c.of.ensures) c.in_ok-trail_to-in-Some.ensures)
