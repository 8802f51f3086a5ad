-- What the definitions say of small jobs.
use Rattle.std.proofs.Common.{◌≡◌, ℕ, List, [], ◌∷◌, refl}
use Rattle.std.specs.Prelude.{Err, Some, pos}
use Rattle.mesh_base.specs.Place.{Place, Area}
use Rattle.mesh_base.specs.Mesh.{MeshView}
use Rattle.mesh_base.specs.declared.edit.Edit.TheVariants as edit
use Rattle.mesh_base.specs.declared.edit.Kernel.TheVariants as kernel
use Rattle.run_script.specs.declared.fault.ScriptKind.TheVariants as kinds
use Rattle.run_script.specs.declared.script.LinedEdit.{LinedEdit}
use Rattle.run_script.specs.declared.script.Item.TheVariants as item
use Rattle.run_script.specs.Faults.{fault}
use Rattle.run_script.specs.Scripts.{ScriptView}
use Rattle.run_script.specs.Jobs.{turn, turns, edit_fault, edits_fault, wait_fault, checked}

abbrev at : ℕ → ℕ → ℕ → Place
at x y z = (pos x, pos y, pos z)

abbrev box : Place → Place → Area
box lo hi = record { lo = lo; hi = hi }

held_turns : turns (item.Wait 6 1 ∷ item.Hold ∷ item.Ask (box (at 0 0 0) (at 1 0 0)) ∷ item.Ask (box (at 7 0 0) (at 7 0 0)) ∷ item.Free ∷ item.Ask (box (at 1 6 0) (at 1 6 0)) ∷ item.Wait 12 0 ∷ [])
    ≡ turn 1 (box (at 0 0 0) (at 1 0 0) ∷ box (at 7 0 0) (at 7 0 0) ∷ []) ∷ turn 1 (box (at 1 6 0) (at 1 6 0) ∷ []) ∷ []
held_turns = refl

-- ---- jobs

abbrev one_cell : MeshView
one_cell = record { points = at 0 0 0 ∷ at 4 0 0 ∷ at 0 4 0 ∷ at 0 0 4 ∷ []; cells = Some (0, 1, 2, 3) ∷ [] }

abbrev one_step : List (ℕ × List ℕ) → ScriptView
one_step adds = record {
  version = 1;
  plans = record { edits = edits adds; kernel = kernel.Stay } ∷ [];
  sessions = (item.Wait 9 2 ∷ []) ∷ [];
}
  where
    edits : List (ℕ × List ℕ) → List LinedEdit
    edits [] = []
    edits (a ∷ rest) = record { line = a.0; edit = edit.Add a.1 } ∷ edits rest

no_point : checked one_cell (one_step ((2, 0 ∷ 1 ∷ 2 ∷ 3 ∷ []) ∷ (3, 9 ∷ 9 ∷ 2 ∷ 3 ∷ []) ∷ [])) ≡ Err (fault kinds.NoPoint 3)
unfolding checked edits_fault edit_fault wait_fault
no_point = refl

same_vertex : checked one_cell (one_step ((2, 0 ∷ 1 ∷ 2 ∷ 2 ∷ []) ∷ [])) ≡ Err (fault kinds.SameVertex 2)
unfolding checked edits_fault edit_fault wait_fault
same_vertex = refl

no_step : checked one_cell (one_step []) ≡ Err (fault kinds.NoStep 9)
unfolding checked edits_fault edit_fault wait_fault
no_step = refl
