use Rattle.std.proofs.Common.{◌≡◌, take, drop}
use Rattle.mesh_base.specs.Mesh.{MeshView}
use Rattle.topo.specs.Topology.{IsTopologyOf}
use Rattle.run_script.specs.Jobs.{all_edited}
use Rattle.job_steps.specs.Added.{new_points, AllFit}
use Rattle.job_steps.proofs.edits.make_edits.Given as goal

abbrev pub invariant-loop-lined : goal.invariant-loop-lined
invariant-loop-lined l = record {
  fit : AllFit l.topo (drop l.lined-index l.edits);
  edited : (mesh : MeshView) → IsTopologyOf mesh l.fn.topo → IsTopologyOf (all_edited mesh (take l.lined-index l.edits)) l.topo;
  added : l.added.items ≡ new_points (take l.lined-index l.edits);
}
