-- the answer and the read bound of a mesh and a box that are a sample
use Rattle.std.proofs.Common.{◌≡◌, ℕ, List, ◌∙◌, ap, sym}
use Rattle.mesh_base.specs.Place.{Area}
use Rattle.mesh_base.specs.Mesh.{MeshView}
use Rattle.mesh_base.specs.Query.{route, answer, read_bound}
use Rattle.mesh_base.specs.Samples.{IsWorked}
use Rattle.mesh_base.specs.declared.answer.Route.{Route}

module _ (mesh sample : MeshView) (area box : Area) (r : Route) (vs : List ℕ) (n : ℕ) where
  pub route_of : mesh ≡ sample → area ≡ box → IsWorked sample box r vs n → route mesh area ≡ r
  route_of e f h = ap (λ m. route m area) e ∙ ap (route sample) f ∙ sym h.0.0

  pub list_of : mesh ≡ sample → area ≡ box → IsWorked sample box r vs n → answer mesh area ≡ vs
  list_of e f h = ap (λ m. answer m area) e ∙ ap (answer sample) f ∙ h.1

  pub bound_of : mesh ≡ sample → area ≡ box → IsWorked sample box r vs n → read_bound mesh area (answer mesh area) ≡ n
  bound_of e f h =
      ap (λ m. read_bound m area (answer m area)) e
      ∙ ap (λ a. read_bound sample a (answer sample a)) f
      ∙ ap (read_bound sample box) h.1
      ∙ h.2
