-- what a plan makes of a mesh
use Rattle.std.proofs.Common.{◌≡◌, ℕ, ◌<◌, ℤ, pos, List, [], ◌∷◌, ◌++◌, length, get_or, All, Option, Some, None, refl, sym, ap, ◌∙◌, subst, arith, append_assoc}
use Rattle.std.specs.List.{cons_option, AllByRecursion}
use Rattle.std.proofs.lemmas.List.{append-nil, same_lists, get_or_default}
use Rattle.std.proofs.lemmas.List.FromFn.{get_or-map-range_with_len, length-map-range_with_len}
use Rattle.std.proofs.lemmas.List.Elements.{All-from_recursion, recursion_from_All, All-map}
use Rattle.std.proofs.lemmas.Int.{ints}
use Rattle.mesh_base.specs.Place.{Place, IsPlace, IsCoordinate}
use Rattle.mesh_base.specs.Mesh.{MeshView, numbers}
use Rattle.mesh_base.specs.Edit.{edited}
use Rattle.mesh_base.specs.Kernel.{held, held_place, place_by, moved}
use Rattle.mesh_base.specs.declared.edit.Edit.{Edit}
use Rattle.mesh_base.specs.declared.edit.Edit.TheVariants as edit
use Rattle.mesh_base.specs.declared.edit.Kernel.{Kernel}
use Rattle.mesh_base.specs.declared.edit.Kernel.TheVariants as kernel
use Rattle.topo.specs.Topology.{Topology, IsTopologyOf}
use Rattle.run_script.specs.Scripts.{IsEdit}
use Rattle.run_script.specs.Jobs.{all_edited, EditsFit}
use Rattle.run_script.specs.declared.script.LinedEdit.{LinedEdit}
use Rattle.job_steps.specs.Added.{new_point, new_points, AllFit}

-- one edit more, at the end
pub all_edited-push : (mesh : MeshView) (edits : List LinedEdit) (e : LinedEdit) → all_edited mesh (edits ++ e ∷ []) ≡ edited (all_edited mesh edits) e.edit
all_edited-push mesh [] e = refl
all_edited-push mesh (x ∷ edits) e = all_edited-push (edited mesh x.edit) edits e

pub new_points-push : (edits : List LinedEdit) (e : LinedEdit) → new_points (edits ++ e ∷ []) ≡ new_points edits ++ cons_option (new_point e.edit) []
new_points-push [] e = refl
new_points-push (x ∷ edits) e = by (new_point x.edit) (new_points-push edits e)
  where
    by : (o : Option Place) → new_points (edits ++ e ∷ []) ≡ new_points edits ++ cons_option (new_point e.edit) [] → cons_option o (new_points (edits ++ e ∷ [])) ≡ cons_option o (new_points edits) ++ cons_option (new_point e.edit) []
    by None h = h
    by (Some p) h = ap (λ l. p ∷ l) h

-- new points stand behind those that are there
edited-points : (mesh : MeshView) (e : Edit) (rest : List Place) → (edited mesh e).points ++ rest ≡ mesh.points ++ cons_option (new_point e) rest
edited-points mesh (edit.Point at) rest = append_assoc mesh.points (at ∷ []) rest
edited-points mesh (edit.Add corners) rest = refl
edited-points mesh (edit.Remove i) rest = refl
edited-points mesh (edit.Split i at) rest = append_assoc mesh.points (at ∷ []) rest

pub all_edited-points : (mesh : MeshView) (edits : List LinedEdit) → (all_edited mesh edits).points ≡ mesh.points ++ new_points edits
all_edited-points mesh [] = sym (append-nil mesh.points)
all_edited-points mesh (e ∷ edits) = all_edited-points (edited mesh e.edit) edits ∙ edited-points mesh e.edit (new_points edits)

-- the edits after the first fit the mesh that it leaves
pub rest_fits : (t u : Topology) (edits rest : List LinedEdit) (e : LinedEdit) → edits ≡ e ∷ rest → AllFit t edits → ((mesh : MeshView) → IsTopologyOf mesh t → IsTopologyOf (edited mesh e.edit) u) → AllFit u rest
rest_fits t u edits rest e is fit next = (edited fit.0 e.edit, next fit.0 fit.1, (subst (EditsFit fit.0) is fit.2).1)

-- coordinates that are in range stay, and those that are held are in range
held-same : (c : ℤ) → IsCoordinate c → held c ≡ c
held-same c h = grind (arith, ints, h.0, h.1)

held_in_range : (c : ℤ) → IsCoordinate (held c)
held_in_range c = (grind (arith, ints), grind (arith, ints))

held_place-same : (p : Place) → IsPlace p → held_place p ≡ p
held_place-same p h =
    let x = held-same p.0 h.0 in
    let y = held-same p.1 h.1 in
    let z = held-same p.2 h.2 in
    grind (arith, x, y, z)

-- the new places, as many as before and in range
pub moved-len : (mesh : MeshView) (k : Kernel) (step : ℕ) → length (moved mesh k step) ≡ length mesh.points
moved-len mesh k step = length-map-range_with_len (λ v. held_place (place_by mesh k step v)) 0 (length mesh.points)

pub moved_in_range : (mesh : MeshView) (k : Kernel) (step : ℕ) → All IsPlace (moved mesh k step)
moved_in_range mesh k step = All-map IsPlace (λ v. held_place (place_by mesh k step v)) (numbers mesh) (λ i d lt. each _)
  where
    each : (v : ℕ) → IsPlace (held_place (place_by mesh k step v))
    each v = let p = place_by mesh k step v in (held_in_range p.0, held_in_range p.1, held_in_range p.2)

-- a motion that moves none leaves the places as they are
pub moved-stay : (mesh : MeshView) (step : ℕ) → All IsPlace mesh.points → mesh.points ≡ moved mesh kernel.Stay step
moved-stay mesh step all = same_lists mesh.points (moved mesh kernel.Stay step) (sym (moved-len mesh kernel.Stay step)) at
  where
    origin : Place
    origin = (pos 0, pos 0, pos 0)

    at : (k : ℕ) (d : Place) → k < length mesh.points → get_or mesh.points k d ≡ get_or (moved mesh kernel.Stay step) k d
    at k d lt =
        let f = λ (v : ℕ). held_place (place_by mesh kernel.Stay step v) in
        get_or_default mesh.points k d origin lt ∙ sym (held_place-same (get_or mesh.points k origin) (all k origin lt))
        ∙ sym (get_or-map-range_with_len f 0 (length mesh.points) k k d lt (omega arith))

-- new points are in range
points_in_range : (edits : List LinedEdit) → AllByRecursion (λ e. IsEdit e.edit) edits → AllByRecursion IsPlace (new_points edits)
points_in_range [] all = tt
points_in_range (e ∷ edits) all = by e.edit all.0 (points_in_range edits all.1)
  where
    by : (x : Edit) → IsEdit x → AllByRecursion IsPlace (new_points edits) → AllByRecursion IsPlace (cons_option (new_point x) (new_points edits))
    by (edit.Point at) h rest = (h, rest)
    by (edit.Add corners) h rest = rest
    by (edit.Remove i) h rest = rest
    by (edit.Split i at) h rest = (h.1, rest)

pub new_points_in_range : (edits : List LinedEdit) → All (λ e. IsEdit e.edit) edits → All IsPlace (new_points edits)
new_points_in_range edits all = All-from_recursion IsPlace (new_points edits) (points_in_range edits (recursion_from_All (λ e. IsEdit e.edit) edits all))
