use Rattle.std.proofs.Common.{cond}
use Rattle.std.proofs.lemmas.List.Sorted.{sum_by-IsPermutation}
use Rattle.mesh_base.specs.Mesh.{Face, face_eq}
use Rattle.face_table.proofs.groups.sort.Goals as goal

pub returns : goal.returns
returns c f = sum_by-IsPermutation (λ (g : Face). cond (face_eq g f) 1 0) c.args.seen.now.items _ c.sort_unstable_by_key.ensures.permutation
