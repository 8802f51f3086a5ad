use Rattle.std.proofs.Common.{◌≡◌, ◌+◌, ◌++◌, ◌<◌, Some, [], ◌∷◌, cond, eqb, length, get_or, take, filter, Contains, ◌∙◌, ap, subst, sym, arith}
use Rattle.std.proofs.lemmas.List.{take_all}
use Rattle.std.proofs.lemmas.List.Elements.{Contains-get_or, filter_more}
use Rattle.std.specs.List.Sorted.{IsStrictlyIncreasing}
use Rattle.mesh_base.specs.Mesh.{surface}
use Rattle.mesh_base.specs.Query.{distance, is_in, nearest}
use Rattle.mesh_base.proofs.NumberLaws.{surface_point}
use Rattle.probe_walk.specs.Nearest.{IsBest}
use Rattle.probe_walk.proofs.BestOf.{best_more}
use Rattle.probe_walk.proofs.EndLaws.{surface_zero, increasing_surface}
use Rattle.probe_walk.proofs.surface_probe.probe.Goals as goal

pub near_of-near-requires : goal.near_of-near-requires
near_of-near-requires g c =
    let xs = c.surface-v-items.result.now in
    let i = c.loop-v.v-index in
    let lt : i < length xs = omega arith in
    (surface_point c.args.step.now.mesh (get_or xs i 0) (subst (λ l. Contains l (get_or xs i 0)) c.surface-v-items.ensures (Contains-get_or xs i 0 lt))).0

pub loop-v-preserved : goal.loop-v-preserved
loop-v-preserved g c =
    let mesh = c.args.step.now.mesh in
    let area = c.args.area.now in
    let xs = c.surface-v-items.result.now in
    let i = c.loop-v.v-index in
    let v = get_or xs i 0 in
    let near = c.near_of-near in
    let lt : i < length xs = omega arith in
    let e = c.surface-v-items.ensures in
    let up = subst IsStrictlyIncreasing (sym e) (increasing_surface mesh) in
    let m = subst (λ l. Contains l v) e (Contains-get_or xs i 0 lt) in
    let inside = ap (λ d. eqb d 0) near.ensures.distance ∙ surface_zero mesh area v m in
    let before = subst (λ l. c.loop-v.inside.items ≡ filter (is_in mesh area) (take i l)) (sym e) c.loop-v.invariant.inside in
    record {
      inside = subst (λ l. c.push_if.new.found.items ≡ filter (is_in mesh area) (take (i + 1) l)) e
          (c.in_ok-push_if.ensures ∙ ap (λ b. c.loop-v.inside.items ++ cond b (v ∷ []) []) inside ∙ ap (λ l. l ++ cond (is_in mesh area v) (v ∷ []) []) before ∙ sym (filter_more (is_in mesh area) xs i 0 lt));
      best = subst (λ l. IsBest mesh area (take (i + 1) l) (Some c.better_of.result)) e
          (rw c.better_of.ensures (best_more mesh area xs i c.loop-v.best near.result up lt near.ensures.vertex
          (near.ensures.distance ∙ ap (distance mesh area) (sym near.ensures.vertex)) (subst (λ l. IsBest mesh area (take i l) c.loop-v.best) (sym e) c.loop-v.invariant.best)));
      reads = omega (arith, near.ensures.reads, c.loop-v.invariant.reads);
    }

pub returns-clause-nearest : goal.returns-clause-nearest
returns-clause-nearest g c =
    let xs = surface c.args.step.now.mesh in
    let n = ap length c.surface-v-items.ensures in
    c.vertex_of.ensures ∙ c.loop-v.invariant.best.vertex ∙ ap (nearest c.args.step.now.mesh c.args.area.now) (take_all c.loop-v.v-index xs (omega arith))
