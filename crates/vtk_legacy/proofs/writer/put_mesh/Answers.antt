use Rattle.std.proofs.Common.{ap, ◌∙◌, sym, vec_len, length, ◌++◌}
use Rattle.std.proofs.lemmas.Result.{on_ok_weaker}
use Rattle.std.proofs.lemmas.List.Elements.{All-same}
use Rattle.mesh_base.specs.Mesh.{live}
use Rattle.mesh_base.specs.Place.{IsPlace}
use Rattle.vtk_legacy.proofs.WrittenAgain.{written_again}
use Rattle.vtk_legacy.specs.Written.{points_spelling, cells_spelling}
use Rattle.vtk_legacy.proofs.WrittenLists.{all_parts, kept-on}
use Rattle.vtk_legacy.proofs.writer.put_mesh.Goals as goal

pub returns-clause-kept : goal.returns-clause-kept
returns-clause-kept c =
    let old = c.args.out.now in
    let a = c.put_front.new.out in
    let b = c.put_count.new.out in
    let d = c.put_cells.new.out in
    let n = vec_len old in
    let l = kept-on old.items a.items b.items n (vec_len a) old.ok.0 a.ok.0 c.in_ok-put_front.ensures.kept c.in_ok-put_count.ensures.kept in
    let m = kept-on old.items b.items d.items n (vec_len b) old.ok.0 b.ok.0 l c.in_ok-put_cells.ensures.kept in
    kept-on old.items d.items c.put_types.new.out.items n (vec_len d) old.ok.0 d.ok.0 m c.put_types.ensures.kept

pub returns-clause-ok : goal.returns-clause-ok
returns-clause-ok c =
    let mesh = c.args.mesh.now in
    let front = c.in_ok-put_front.ensures.ok ∙ ap (λ ps. c.args.out.now.items ++ points_spelling ps) c.points.ensures.points in
    let cells = c.in_ok-put_cells.ensures.ok ∙ ap (λ cs. c.put_count.new.out.items ++ cells_spelling cs) c.cells-2.ensures.cells in
    let count = c.live_count-live.ensures.count ∙ ap (λ cs. length (live cs)) c.cells.ensures.cells in
    on_ok_weaker c.put_types.result
    (all_parts c.args.out.now.items c.put_front.new.out.items c.put_count.new.out.items c.put_cells.new.out.items c.put_types.new.out.items mesh c.live_count-live.result count front c.in_ok-put_count.ensures.ok cells)
    c.put_types.ensures.ok

pub returns-clause-read_again : goal.returns-clause-read_again
returns-clause-read_again c =
    let places = All-same IsPlace c.args.mesh.now.points c.points.result.now (sym c.points.ensures.points) c.in_ok-put_front.ensures.in_range in
    on_ok_weaker c.put_types.result (λ _. written_again c.args.mesh.now c.points.ensures.valid places) c.put_types.ensures.ok
