-- Faults of all texts that begin with some bytes.
use Rattle.std.proofs.Common.{ℕ, List, ◌++◌, subst, sym, append_assoc}
use Rattle.vtk_legacy.specs.declared.fault.MeshFault.{MeshFault}
use Rattle.vtk_legacy.specs.MeshText.{mesh_text}
use Rattle.vtk_legacy.specs.Outcome.{IsFault, IsFaultOfAll}

-- more bytes do not change it
pub still_fault : (e : MeshFault) (fed piece : List ℕ) → IsFaultOfAll e fed → IsFaultOfAll e (fed ++ piece)
still_fault e fed piece h more = subst (λ (bytes : List ℕ). IsFault e (mesh_text bytes)) (sym (append_assoc fed piece more)) (h (piece ++ more))
