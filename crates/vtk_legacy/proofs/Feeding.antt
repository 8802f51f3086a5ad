-- What a reader knows after one more piece.
use Rattle.std.proofs.Common.{◌≡◌, ℕ, false, List, ◌++◌, Option, Some, None, Result, Ok, Err, sym, ap, subst, ◌∙◌, append_assoc}
use Rattle.std.specs.Prelude.{IfErr, OnOk}
use Rattle.oct_text.specs.Rest.{Rest, continued, MayCome}
use Rattle.vtk_legacy.specs.declared.fault.MeshFault.{MeshFault}
use Rattle.vtk_legacy.specs.declared.stage.Stage.{Stage}
use Rattle.vtk_legacy.specs.declared.stage.Stage.TheVariants as stage
use Rattle.vtk_legacy.specs.MeshText.{mesh_text}
use Rattle.vtk_legacy.specs.Kept.{Parts}
use Rattle.vtk_legacy.specs.Outcome.{IsFault}
use Rattle.vtk_legacy.specs.Reader.{Decides, HasReadAs}
use Rattle.vtk_legacy.proofs.FaultLemmas.{still_fault}
use Rattle.vtk_legacy.specs.Machine.{Outcome, goes_on, Keeps, FaultsWith, SameText, Runs}

pub grows : (fed piece : List ℕ) (s : Stage) (got : Parts) (r r' : Rest) → r' ≡ record r { bytes = r.bytes ++ piece } → Decides fed s got r → Decides (fed ++ piece) s got r'
grows fed piece s got r r' e h more =
    ap mesh_text (append_assoc fed piece more) ∙ h (piece ++ more)
    ∙ ap (λ (bytes : List ℕ). goes_on s got (record { place = r.place; bytes = bytes })) (sym (append_assoc r.bytes piece more))
    ∙ ap (λ (x : Rest). goes_on s got (continued x more)) (sym e)

may : (r : Rest) (more : List ℕ) → r.ended ≡ false → MayCome r more
may r more e = λ f. absurd (let g = e in cc)

-- a run went as far as it could
pub runs_on : (fed : List ℕ) (s new : Stage) (got got' : Parts) (r r' : Rest) → r.ended ≡ false → Decides fed s got r → Keeps s got r new got' r' → Decides fed new got' r'
runs_on fed s new got got' r r' open_still h keeps more = h more ∙ keeps more (may r more open_still)

-- a run met a fault
pub runs_out : (fed : List ℕ) (s : Stage) (got : Parts) (r : Rest) (e : MeshFault) → r.ended ≡ false → Decides fed s got r → FaultsWith s got r e → (more : List ℕ) → IsFault e (mesh_text (fed ++ more))
runs_out fed s got r e open_still h faults more = subst (λ (x : Outcome). IsFault e x) (sym (h more)) (faults more (may r more open_still))

pub text_by : (s new : Stage) (got got' : Parts) (r r' : Rest) (x : Result (Unit {0}) MeshFault) → Runs s got r x new got' r' → SameText r r'
text_by s new got got' r r' (Ok done) runs = runs.2
text_by s new got got' r r' (Err e) runs = runs.1

pub fails_after : (fed : List ℕ) (s new : Stage) (got got' : Parts) (r r' : Rest) (x : Result (Unit {0}) MeshFault) → r.ended ≡ false → Decides fed s got r → Runs s got r x new got' r'
    → IfErr x (λ e. (more : List ℕ) → IsFault e (mesh_text (fed ++ more)))
fails_after fed s new got got' r r' (Ok done) o h runs = tt
fails_after fed s new got got' r r' (Err e) o h runs = runs_out fed s got r e o h runs.0

pub decides_after : (s new : Stage) (got got' : Parts) (r r' : Rest) (x : Result (Unit {0}) MeshFault) → r.ended ≡ false → Runs s got r x new got' r'
    → OnOk x ((fed : List ℕ) → Decides fed s got r → Decides fed new got' r')
decides_after s new got got' r r' (Ok done) o runs = λ fed h. runs_on fed s new got got' r r' o h runs.0
decides_after s new got got' r r' (Err e) o runs = tt

-- where the attributes were reached nothing more matters
pub passes_on : (fed piece : List ℕ) (got : Parts) (r : Rest) → Decides fed stage.Passed got r → Decides (fed ++ piece) stage.Passed got r
unfolding goes_on
passes_on fed piece got r h more = ap mesh_text (append_assoc fed piece more) ∙ h (piece ++ more)

pub passes_as : (failed : Option MeshFault) (fed piece : List ℕ) (s : Stage) (got : Parts) (r : Rest) → s ≡ stage.Passed → HasReadAs failed fed s got r → HasReadAs failed (fed ++ piece) s got r
passes_as (Some e) fed piece s got r is h = still_fault e fed piece h
passes_as None fed piece s got r is h = rw is (passes_on fed piece got r (rw is at h))
