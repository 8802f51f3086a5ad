use Rattle.std.proofs.Common.{◌≡◌, ◌∙◌, rules, Option}
use Rattle.std.specs.Prelude.{count_by}
use Rattle.std.specs.Option.{is_some}
use Rattle.mesh_base.specs.Mesh.{Corners}
use Rattle.vtk_legacy.proofs.WrittenLists.{count_by-live}
use Rattle.vtk_legacy.proofs.writer.live_count.Goals as goal

pub returns-clause-count : goal.returns-clause-count
returns-clause-count c = let e : c.count.result ≡ count_by (λ (o : Option Corners). is_some o) c.args.cells.now = search rules in e ∙ count_by-live c.args.cells.now
