use Rattle.std.proofs.Common.{arith, vec_len}
use Rattle.vtk_legacy.proofs.WrittenLists.{maybe_line, next_piece, all_cells, kept-on, kept-appended}
use Rattle.vtk_legacy.proofs.writer.put_cells.Goals as goal

pub returns-in_err-put_live-clause-kept : goal.returns-in_err-put_live-clause-kept
returns-in_err-put_live-clause-kept c =
    let old = c.args.out.now in
    let mid = c.loop-cell.out in
    kept-on old.items mid.items c.put_live.new.out.items (vec_len old) (vec_len mid) old.ok.0 mid.ok.0 (kept-appended old.items mid.items _ (vec_len old) old.ok.0 c.loop-cell.invariant) c.in_err-put_live.ensures.kept

pub loop-cell-preserved : goal.loop-cell-preserved
loop-cell-preserved c =
    next_piece maybe_line c.args.cells.now c.loop-cell.cell-index c.cell-item.result _ c.loop-cell.out.items c.put_live.new.out.items c.loop-cell-test.true c.cell-item.is c.loop-cell.invariant c.in_ok-put_live.ensures.ok

pub returns-clause-ok : goal.returns-clause-ok
returns-clause-ok c = all_cells c.loop-cell.out.items c.args.out.now.items c.args.cells.now c.loop-cell.cell-index (omega arith) c.loop-cell.invariant

pub returns-clause-kept : goal.returns-clause-kept
returns-clause-kept c =
    let old = c.args.out.now in
    kept-appended old.items c.loop-cell.out.items _ (vec_len old) old.ok.0 c.loop-cell.invariant
