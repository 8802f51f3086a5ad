-- what edits do to a topology, and the points that they add
use Rattle.std.specs.Prelude.{List, Option, Some, None, filter_map}
use Rattle.mesh_base.specs.Place.{Place}
use Rattle.mesh_base.specs.Mesh.{MeshView}
use Rattle.mesh_base.specs.declared.edit.Edit.{Edit}
use Rattle.mesh_base.specs.declared.edit.Edit.TheVariants.{Point, Add, Remove, Split}
use Rattle.topo.specs.Topology.{Topology, IsTopologyOf}
use Rattle.run_script.specs.Jobs.{EditsFit}
use Rattle.run_script.specs.declared.script.LinedEdit.{LinedEdit}

-- the place of the point that an edit adds, if it adds one
abbrev pub new_point : Edit → Option Place
new_point (Point at) = Some at
new_point (Split i at) = Some at
new_point (Add corners) = None
new_point (Remove i) = None

-- the places of the points that these edits add, in order
abbrev pub new_points : List LinedEdit → List Place
new_points edits = filter_map (λ e. new_point e.edit) edits

-- in order, the edits fit a mesh with this topology: then they fit each
abbrev pub AllFit : Topology → List LinedEdit → Type 0
AllFit topology edits = (mesh : MeshView) × IsTopologyOf mesh topology × EditsFit mesh edits
