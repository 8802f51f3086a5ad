use Rattle.std.proofs.Common.{subst, sym, arith}
use Rattle.std.proofs.lemmas.List.{take_all}
use Rattle.std.proofs.lemmas.List.Elements.{All-more, All-same}
use Rattle.mesh_base.specs.Place.{IsPlace, IsCoordinate}
use Rattle.job_steps.proofs.maker.are_places.Goals as goal

pub loop-point-preserved : goal.loop-point-preserved
loop-point-preserved c =
    let p = c.point-item.result in
    let here : IsPlace p = (
      subst IsCoordinate c.x.ensures.value c.x.ensures.in_range,
      subst IsCoordinate c.y.ensures.value c.y.ensures.in_range,
      subst IsCoordinate c.z.ensures.value c.z.ensures.in_range,
    ) in
    All-more IsPlace c.args.points.now c.loop-point.point-index p (omega arith) c.loop-point.invariant (subst IsPlace c.point-item.is here)

pub returns : goal.returns
returns c = All-same IsPlace _ _ (sym (take_all c.loop-point.point-index c.args.points.now (omega arith))) c.loop-point.invariant
