use Rattle.std.proofs.Common.{length}
use Rattle.std.proofs.lemmas.List.FromFn.{length-map-range_with_len}
use Rattle.mesh_base.specs.Kernel.{held_place, place_by}
use Rattle.mesh_base.proofs.EditLaws.{moved_in_range}
use Rattle.mesh_base.proofs.laws.edits.motions_stay_in_range.Goals as goal

pub returns-clause-each : goal.returns-clause-each
returns-clause-each c mesh kernel k = length-map-range_with_len (λ v. held_place (place_by mesh kernel k v)) 0 (length mesh.points)

pub returns-clause-in_range : goal.returns-clause-in_range
returns-clause-in_range c mesh kernel k = moved_in_range mesh kernel k
