use Rattle.mesh_base.proofs.EditLaws.{keeps, keeps_in_range}
use Rattle.mesh_base.proofs.laws.edits.edits_keep_meshes.Goals as goal

pub returns-clause-valid : goal.returns-clause-valid
returns-clause-valid c mesh edit valid fits = keeps mesh edit valid fits

pub returns-clause-in_range : goal.returns-clause-in_range
returns-clause-in_range c mesh edit places adds = keeps_in_range mesh edit places adds
