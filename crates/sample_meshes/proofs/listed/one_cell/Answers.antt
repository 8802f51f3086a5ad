use Rattle.std.proofs.Common.{pos, [], ◌∷◌, SomeIff, subst}
use Rattle.sample_meshes.specs.Listed.{IsListed, listed}
use Rattle.sample_meshes.proofs.ListedLaws.{one_is_listed}
use Rattle.sample_meshes.proofs.listed.one_cell.Goals as goal

pub unreachable-requires : goal.unreachable-requires
unreachable-requires c =
    let places = (pos 0 ∷ pos 0 ∷ pos 0 ∷ []) ∷ (pos 4 ∷ pos 0 ∷ pos 0 ∷ []) ∷ (pos 0 ∷ pos 4 ∷ pos 0 ∷ []) ∷ (pos 0 ∷ pos 0 ∷ pos 4 ∷ []) ∷ [] in
    let rows = (0 ∷ 1 ∷ 2 ∷ 3 ∷ []) ∷ [] in
    subst (λ found. SomeIff found (IsListed places rows) (listed places rows)) c.in-None.is c.in_ok-mesh.ensures one_is_listed
