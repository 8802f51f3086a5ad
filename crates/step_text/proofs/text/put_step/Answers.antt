use Rattle.std.proofs.Common.{◌++◌, ap, sym, ◌∙◌, length}
use Rattle.std.proofs.lemmas.Result.{on_ok_weaker}
use Rattle.mesh_base.specs.Mesh.{live}
use Rattle.vtk_legacy.specs.Written.{cells_spelling}
use Rattle.vtk_legacy.proofs.WrittenAgain.{written_again}
use Rattle.vtk_legacy.proofs.WrittenLists.{all_parts}
use Rattle.step_text.proofs.text.put_step.Goals as goal

pub returns-clause-ok : goal.returns-clause-ok
returns-clause-ok c =
    let mesh = c.args.step.now.mesh in
    let same = sym c.shape-shape.ensures.shape.1 in
    let cells = c.in_ok-put_cells.ensures.ok ∙ ap (λ cs. c.write_count.new.out.items ++ cells_spelling cs) same in
    let count = c.live_count-live.ensures.count ∙ ap (λ cs. length (live cs)) same in
    on_ok_weaker c.write_types.result
    (all_parts c.args.out.now.items c.put_places.new.out.items c.write_count.new.out.items c.put_cells.new.out.items c.write_types.new.out.items mesh c.live_count-live.result count c.in_ok-put_places.ensures.ok c.in_ok-write_count.ensures.ok cells)
    c.write_types.ensures.ok

pub returns-clause-read_again : goal.returns-clause-read_again
returns-clause-read_again c = on_ok_weaker c.write_types.result (λ _. written_again c.args.step.now.mesh c.points-valid.ensures.valid c.in_ok-put_places.ensures.in_range) c.write_types.ensures.ok
