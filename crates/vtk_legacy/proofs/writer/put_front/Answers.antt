use Rattle.std.proofs.lemmas.Result.{on_ok_weaker}
use Rattle.std.proofs.Common.{vec_len}
use Rattle.vtk_legacy.proofs.WrittenLists.{all_front, kept-on, kept-appended}
use Rattle.vtk_legacy.proofs.writer.put_front.Goals as goal

pub returns-clause-ok : goal.returns-clause-ok
returns-clause-ok c =
    on_ok_weaker c.put_points.result (all_front c.args.out.now.items c.extend_from_slice.new.self.items c.put_points.new.out.items c.args.points.now c.in_ok-extend_from_slice.ensures.items) c.put_points.ensures.ok

pub returns-clause-kept : goal.returns-clause-kept
returns-clause-kept c =
    let old = c.args.out.now in
    let mid = c.extend_from_slice.new.self in
    let n = vec_len old in
    let k = kept-appended old.items mid.items _ n old.ok.0 c.in_ok-extend_from_slice.ensures.items in
    kept-on old.items mid.items c.put_points.new.out.items n (vec_len mid) old.ok.0 mid.ok.0 k c.put_points.ensures.kept
