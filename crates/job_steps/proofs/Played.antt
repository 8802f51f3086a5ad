-- the next step of a job, from the one before it
use Rattle.std.proofs.Common.{◌≡◌, ℕ, ◌+◌, ◌<◌, List, ◌++◌, length, length-append, All, refl, sym, ap, ◌∙◌, subst, arith, add-one}
use Rattle.mesh_base.specs.Place.{Place, IsPlace}
use Rattle.mesh_base.specs.Mesh.{MeshView}
use Rattle.mesh_base.specs.Kernel.{moved}
use Rattle.mesh_base.specs.declared.edit.Kernel.{Kernel}
use Rattle.mesh_base.specs.declared.edit.Kernel.TheVariants as kernel
use Rattle.topo.specs.Topology.{Topology, IsTopologyOf, mesh_at}
use Rattle.run_script.specs.Jobs.{JobView, all_edited, planned, plan_at, step_at, steps}
use Rattle.run_script.specs.declared.script.LinedEdit.{LinedEdit}
use Rattle.step_view.specs.StepView.{IsStepOf}
use Rattle.job_steps.specs.Added.{new_points}
use Rattle.job_steps.proofs.PlanLaws.{all_edited-points, moved-len, moved-stay}

-- meshes with the same places and the same cells
same_mesh : (m n : MeshView) → m.points ≡ n.points → m.cells ≡ n.cells → m ≡ n
same_mesh m n p c = ap (λ points. record { points = points; cells = m.cells }) p ∙ ap (λ cells. record { points = n.points; cells = cells }) c

step_at-next : (job : JobView) (k : ℕ) → step_at job (k + 1) ≡ planned (step_at job k) (plan_at job k) (k + 1)
unfolding step_at
step_at-next job k = ap (step_at job) (add-one k)

-- step 0 has the job's mesh
step_at-first : (job : JobView) → step_at job 0 ≡ job.mesh
unfolding step_at
step_at-first job = refl

pub first_is : (job : JobView) (mesh : MeshView) (t : Topology) (places : List Place) → mesh ≡ job.mesh → IsTopologyOf mesh t → places ≡ mesh.points → IsStepOf job 0 t places
first_is job mesh t places e is p = record {
  few = omega arith;
  mesh = same_mesh (mesh_at places t) mesh p (sym is.1) ∙ e ∙ sym (step_at-first job);
  points = ap length p ∙ is.0;
}

-- what a step's topology and places are of its mesh
pub shape_is : (job : JobView) (k : ℕ) (t : Topology) (places : List Place) → IsStepOf job k t places → IsTopologyOf (step_at job k) t
shape_is job k t places s = (ap (λ m. length m.points) (sym s.mesh) ∙ s.points, ap (λ m. m.cells) (sym s.mesh))

pub places_are : (job : JobView) (k : ℕ) (t : Topology) (places : List Place) → IsStepOf job k t places → places ≡ (step_at job k).points
places_are job k t places s = ap (λ m. m.points) s.mesh

pub same_step : (job other : JobView) (k : ℕ) (t u : Topology) (places more : List Place) → other ≡ job → u ≡ t → more ≡ places → IsStepOf job k t places → IsStepOf other k u more
same_step job other k t u places more j s p is =
    subst (λ v. IsStepOf v k u more) (sym j) (subst (λ v. IsStepOf job k v more) (sym s) (subst (λ v. IsStepOf job k t v) (sym p) is))

-- the edits of its plan, which give the topology u
module _ (job : JobView) (k : ℕ) (t u : Topology) (places : List Place) (now : IsStepOf job k t places) (edits : List LinedEdit) (of_plan : edits ≡ (plan_at job k).edits) (next : (mesh : MeshView) → IsTopologyOf mesh t → IsTopologyOf (all_edited mesh edits) u) where
  abbrev after : MeshView
  after = all_edited (mesh_at places t) edits

  is : IsTopologyOf after u
  is = next (mesh_at places t) (now.points, refl)

  -- as many places as there are points after them
  pub added-len : (added : List Place) → added ≡ new_points edits → length places + length added ≡ u.points
  added-len added a = sym (length-append places added) ∙ sym (ap length (all_edited-points (mesh_at places t) edits ∙ ap (λ l. places ++ l) (sym a))) ∙ is.0

  -- and the mesh after them
  pub edited_mesh : (added before : List Place) → added ≡ new_points edits → before ≡ places ++ added → mesh_at before u ≡ all_edited (step_at job k) (plan_at job k).edits
  edited_mesh added before a b =
      let points : after.points ≡ before = all_edited-points (mesh_at places t) edits ∙ ap (λ l. places ++ l) (sym a) ∙ sym b in
      sym (same_mesh after (mesh_at before u) points is.1) ∙ ap (λ m. all_edited m edits) now.mesh ∙ ap (all_edited (step_at job k)) of_plan

-- and then its motion
next_is : (job : JobView) (k : ℕ) (u : Topology) (before moved_to : List Place) → k < steps job → mesh_at before u ≡ all_edited (step_at job k) (plan_at job k).edits → length before ≡ u.points → moved_to ≡ moved (mesh_at before u) (plan_at job k).kernel (k + 1) → IsStepOf job (k + 1) u moved_to
next_is job k u before moved_to lt e len m =
    let with_cells : List Place → MeshView = λ points. record { points = points; cells = u.cells } in
    let with_motion : MeshView → MeshView = λ n. record { points = moved n (plan_at job k).kernel (k + 1); cells = n.cells } in
    record {
      few = omega (arith, lt);
      mesh = ap with_cells m ∙ ap with_motion e ∙ sym (step_at-next job k);
      points = ap length m ∙ moved-len (mesh_at before u) (plan_at job k).kernel (k + 1) ∙ len;
    }

pub next_made : (job : JobView) (k step : ℕ) (u shape : Topology) (kernel : Kernel) (before moved_to : List Place) → k < steps job → mesh_at before u ≡ all_edited (step_at job k) (plan_at job k).edits → kernel ≡ (plan_at job k).kernel → step ≡ k + 1 → shape ≡ u → length before ≡ shape.points → moved_to ≡ moved (mesh_at before shape) kernel step → IsStepOf job step u moved_to
next_made job k step u shape kernel before moved_to lt mesh by number same len m =
    let motion = m ∙ ap (λ s. moved (mesh_at before s) kernel step) same ∙ ap (λ x. moved (mesh_at before u) x step) by ∙ ap (moved (mesh_at before u) (plan_at job k).kernel) number in
    subst (λ n. IsStepOf job n u moved_to) (sym number) (next_is job k u before moved_to lt mesh (len ∙ ap (λ s. s.points) same) motion)

-- a plan that stays has no motion
pub next_stays : (job : JobView) (k : ℕ) (u : Topology) (before : List Place) → k < steps job → mesh_at before u ≡ all_edited (step_at job k) (plan_at job k).edits → (plan_at job k).kernel ≡ kernel.Stay → length before ≡ u.points → All IsPlace before → IsStepOf job (k + 1) u before
next_stays job k u before lt e stay len all =
    let m = mesh_at before u in
    next_is job k u before before lt e len (moved-stay m (k + 1) all ∙ ap (λ x. moved m x (k + 1)) (sym stay))
