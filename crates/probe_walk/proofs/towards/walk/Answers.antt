use Rattle.std.proofs.Common.{◌≡◌, refl, ◌∙◌, ap, sym, arith}
use Rattle.mesh_base.specs.Place.{dist2}
use Rattle.mesh_base.specs.Query.{distance}
use Rattle.mesh_base.proofs.NumberLaws.{of_vertices}
use Rattle.mesh_base.proofs.WalkLaws.{none_nearer}
use Rattle.probe_walk.proofs.EndLaws.{last_on, last_stops, degrees_on, degrees_first}
use Rattle.probe_walk.proofs.towards.walk.Goals as goal

pub at-requires : goal.at-requires
at-requires g c = (of_vertices c.args.step.now.mesh c.args.from c.requires.from).1

pub loop-far-init : goal.loop-far-init
loop-far-init g c = record {
  point = (of_vertices c.args.step.now.mesh c.args.from c.requires.from).1;
  far = c.dist2-far.ensures.value ∙ ap (dist2 c.args.area.now) c.at.ensures.place;
  end = refl;
  reads = omega (arith, c.at.ensures.reads);
}

pub loop-far-preserved : goal.loop-far-preserved
loop-far-preserved g c =
    let mesh = c.args.step.now.mesh in
    let area = c.args.area.now in
    let w = c.in-Some.near.vertex in
    let e = sym c.in-Some.ensures.vertex in
    record {
      point = c.in-Some.ensures.point;
      far = c.in-Some.ensures.distance;
      end = last_on mesh area c.loop-far.at w e ∙ c.loop-far.invariant.end;
      reads = omega (arith, degrees_on mesh area c.loop-far.at w e, c.next_of.ensures.reads, c.loop-far.invariant.reads);
    }

pub returns-in-None-clause-end : goal.returns-in-None-clause-end
returns-in-None-clause-end g c =
    let e = sym c.in-None.ensures.vertex in
    (sym c.loop-far.invariant.end ∙ last_stops c.args.step.now.mesh c.args.area.now c.loop-far.at e, omega (arith, c.loop-far.invariant.far))

pub returns-in-None-clause-reads : goal.returns-in-None-clause-reads
returns-in-None-clause-reads g c =
    omega (arith, degrees_first c.args.step.now.mesh c.args.area.now c.loop-far.at, c.next_of.ensures.reads, c.loop-far.invariant.reads)

pub returns-clause-end : goal.returns-clause-end
returns-clause-end g c =
    let z : distance c.args.step.now.mesh c.args.area.now c.loop-far.at ≡ 0 = omega (arith, c.loop-far.invariant.far) in
    (sym c.loop-far.invariant.end ∙ last_stops c.args.step.now.mesh c.args.area.now c.loop-far.at (none_nearer c.args.step.now.mesh c.args.area.now c.loop-far.at z), z)

pub returns-clause-reads : goal.returns-clause-reads
returns-clause-reads g c = omega (arith, c.loop-far.invariant.reads)
