use Rattle.std.proofs.Common.{◌<◌, length, get_or, ◌∙◌, ap, sym, arith}
use Rattle.std.proofs.lemmas.List.Elements.{Contains-get_or}
use Rattle.mesh_base.specs.Query.{distance}
use Rattle.probe_walk.proofs.BestOf.{best_more}
use Rattle.probe_walk.proofs.near.nearest_of.Goals as goal

pub near_of-near-requires : goal.near_of-near-requires
near_of-near-requires g c =
    let lt : c.loop-v.v-index < length c.args.list.now = omega arith in
    c.requires.points (get_or c.args.list.now c.loop-v.v-index 0) (Contains-get_or c.args.list.now c.loop-v.v-index 0 lt)

pub loop-v-preserved : goal.loop-v-preserved
loop-v-preserved g c =
    let mesh = c.args.step.now.mesh in
    let area = c.args.area.now in
    let near = c.near_of-near in
    let lt : c.loop-v.v-index < length c.args.list.now = omega arith in
    record {
      best = rw c.better_of.ensures (best_more mesh area c.args.list.now c.loop-v.v-index c.loop-v.best near.result c.requires.ascending lt near.ensures.vertex
          (near.ensures.distance ∙ ap (distance mesh area) (sym near.ensures.vertex)) c.loop-v.invariant.best);
      reads = omega (arith, near.ensures.reads, c.loop-v.invariant.reads);
    }
