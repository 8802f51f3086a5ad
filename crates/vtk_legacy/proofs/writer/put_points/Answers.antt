use Rattle.std.proofs.Common.{arith, vec_len, subst}
use Rattle.std.proofs.lemmas.List.Elements.{All-more}
use Rattle.mesh_base.specs.Place.{Place, IsPlace}
use Rattle.vtk_legacy.specs.Written.{line, point_line}
use Rattle.vtk_legacy.proofs.WrittenLists.{next_piece, all_points, kept-on, kept-appended_twice}
use Rattle.vtk_legacy.proofs.writer.put_points.Goals as goal

pub returns-in_err-put_point-clause-kept : goal.returns-in_err-put_point-clause-kept
returns-in_err-put_point-clause-kept c =
    let old = c.args.out.now in
    let mid = c.loop-point.out in
    kept-on old.items mid.items c.put_point.new.out.items (vec_len old) (vec_len mid) old.ok.0 mid.ok.0 (kept-appended_twice old.items mid.items _ _ (vec_len old) old.ok.0 c.loop-point.invariant.text) c.in_err-put_point.ensures.kept

pub loop-point-preserved : goal.loop-point-preserved
loop-point-preserved c = record {
  text = next_piece (λ (p : Place). line (point_line p)) c.args.points.now c.loop-point.point-index c.point-item.result _ c.loop-point.out.items c.put_point.new.out.items c.loop-point-test.true c.point-item.is c.loop-point.invariant.text c.in_ok-put_point.ensures.ok;
  in_range = All-more IsPlace c.args.points.now c.loop-point.point-index c.point-item.result c.loop-point-test.true c.loop-point.invariant.in_range (subst IsPlace c.point-item.is c.in_ok-put_point.ensures.in_range);
}

pub returns-clause-ok : goal.returns-clause-ok
returns-clause-ok c = all_points c.loop-point.out.items c.args.out.now.items _ c.args.points.now c.loop-point.point-index (omega arith) c.loop-point.invariant.text
