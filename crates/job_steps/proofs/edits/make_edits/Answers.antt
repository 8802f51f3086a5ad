use Rattle.std.proofs.Common.{◌≡◌, ◌+◌, ◌++◌, List, ◌∷◌, [], ◌∙◌, take, drop, sym, ap, subst}
use Rattle.std.specs.List.{cons_option}
use Rattle.std.proofs.lemmas.List.{take_more, drop_more, append-nil}
use Rattle.mesh_base.specs.Place.{Place}
use Rattle.mesh_base.specs.Mesh.{MeshView}
use Rattle.topo.specs.Topology.{IsTopologyOf}
use Rattle.run_script.specs.Jobs.{all_edited}
use Rattle.run_script.specs.declared.script.LinedEdit.{LinedEdit}
use Rattle.job_steps.specs.Added.{new_point, new_points}
use Rattle.job_steps.proofs.PlanLaws.{all_edited-push, new_points-push, rest_fits}
use Rattle.job_steps.proofs.edits.make_edits.Goals as goal
use Rattle.job_steps.proofs.edits.make_edits.Goals.{in-Some+in_ok-push, in_default}

pub loop-lined-preserved : goal.loop-lined-preserved
loop-lined-preserved c =
    let i = c.loop-lined.lined-index in
    let edits = c.args.edits.now in
    let e = c.lined-item.result in
    let inv = c.loop-lined.invariant in
    let new = c.edit.new.self in
    let lt = c.loop-lined-test.true in
    let dropped = drop_more edits i e lt ∙ ap (λ x. x ∷ drop (i + 1) edits) (sym c.lined-item.is) in
    let taken = take_more edits i e lt ∙ ap (λ x. take i edits ++ x ∷ []) (sym c.lined-item.is) in
    let wanted = ap new_points taken ∙ new_points-push (take i edits) e in
    let added : (more : List Place) → more ≡ cons_option (new_point e.edit) [] → c.loop-lined.added.items ++ more ≡ new_points (take (i + 1) edits)
    = λ more m. ap (λ l. l ++ more) inv.added ∙ ap (λ l. new_points (take i edits) ++ l) m ∙ sym wanted in
    record {
      fit = rest_fits c.loop-lined.topo new (drop i edits) (drop (i + 1) edits) e dropped inv.fit c.in_ok-edit.ensures.edited;
      edited = λ mesh h. subst (λ (l : List LinedEdit). IsTopologyOf (all_edited mesh l) new) (sym taken)
          (subst (λ (m : MeshView). IsTopologyOf m new) (sym (all_edited-push mesh (take i edits) e))
          (c.in_ok-edit.ensures.edited (all_edited mesh (take i edits)) (inv.edited mesh h)));
      added = elim c.match-new_point.branch [
        | in-Some+in_ok-push w ↦ ap (λ v. v.items) w.added-is ∙ w.in_ok-push.ensures.items
            ∙ added (w.in-Some.at ∷ []) (ap (λ o. cons_option o []) (sym w.in-Some.is ∙ c.new_point.ensures))
        | in_default w ↦ ap (λ v. v.items) w.added-is ∙ sym (append-nil c.loop-lined.added.items)
            ∙ added [] (ap (λ o. cons_option o []) (sym w.in_default.is ∙ c.new_point.ensures))
      ];
    }
