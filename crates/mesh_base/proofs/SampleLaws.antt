-- boxes worked out by computation
use Rattle.std.proofs.Common.{◌≡◌, ℕ, inl, List, Contains, subst}
use Rattle.mesh_base.specs.Place.{Area}
use Rattle.mesh_base.specs.Mesh.{MeshView, surface}
use Rattle.mesh_base.specs.Answer.{IsAnswerBy, answer_by, route, answer, probed}
use Rattle.mesh_base.specs.Scan.{is_in, scan}
use Rattle.mesh_base.specs.Parts.{IsCovered, joined_to}
use Rattle.mesh_base.specs.Reads.{read_bound}
use Rattle.mesh_base.specs.Samples.{IsWorked}
use Rattle.mesh_base.specs.declared.answer.Route.{Route}
use Rattle.mesh_base.proofs.JoinedLaws.{answer_is, joined_is}
use Rattle.mesh_base.proofs.AnswerLaws.{from_probed}
use Rattle.mesh_base.proofs.Ascending.{In-from_Contains, Contains-from_In, In-filter}

pub gives : (mesh : MeshView) (area : Area) (r : Route) (vs : List ℕ) (reads : ℕ) → r ≡ route mesh area → answer_by mesh area r ≡ vs → answer mesh area ≡ vs → read_bound mesh area vs ≡ reads → IsWorked mesh area r vs reads
gives mesh area r vs reads e list whole bound = ((e, subst (IsAnswerBy mesh area r) list (answer_is mesh area r)), whole, bound)

-- where all that is inside is joined to the surface vertices inside, the box is covered
pub covered : (mesh : MeshView) (area : Area) → ((v : ℕ) → Contains (scan mesh area) v → Contains (joined_to mesh area (probed mesh area)) v) → IsCovered mesh area
covered mesh area all = inl (λ v m.
    let j = (joined_is mesh area (probed mesh area) (λ s k. from_probed mesh area s (In-from_Contains _ s k))).only v (all v m) in
    (j.0, on_surface j.0 j.1, j.2))
  where
    on_surface : (s : ℕ) → Contains (probed mesh area) s → Contains (surface mesh) s
    on_surface s k = Contains-from_In _ s (In-filter (is_in mesh area) (surface mesh) s (In-from_Contains _ s k)).1
