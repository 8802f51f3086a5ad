-- Jobs: a mesh with a script whose every edit fits and whose every wait can be met; turns, and the mesh of a step.
use Rattle.std.specs.Prelude.{ℕ, zero, suc, ◌+◌, ◌<◌, ◌≤◌, max, Bool, not, ◌&&◌, ◌==◌, nat_lt, nat_le, if◌then◌else◌, List, [], ◌∷◌, ◌++◌, length, map, flat_map, All, sum_by, Option, Some, None, Result, Ok, Err, slice_index_or}
use Rattle.std.specs.Option.{is_some}
use Rattle.mesh_base.specs.Place.{Area}
use Rattle.mesh_base.specs.Mesh.{MeshView, Corners, corners_of, IsMesh}
use Rattle.mesh_base.specs.Edit.{cell_at, edited, EditFits}
use Rattle.mesh_base.specs.Kernel.{moved}
use Rattle.mesh_base.specs.declared.edit.Edit.{Edit}
use Rattle.mesh_base.specs.declared.edit.Edit.TheVariants as edit
use Rattle.mesh_base.specs.declared.edit.Kernel.TheVariants as kernel
use Rattle.run_script.specs.declared.fault.ScriptKind.{ScriptKind}
use Rattle.run_script.specs.declared.fault.ScriptKind.TheVariants as kinds
use Rattle.run_script.specs.declared.job.SessionTurn.{SessionTurn}
use Rattle.run_script.specs.declared.script.LinedEdit.{LinedEdit}
use Rattle.run_script.specs.declared.script.Plan.{Plan}
use Rattle.run_script.specs.declared.script.Item.{Item}
use Rattle.run_script.specs.declared.script.Item.TheVariants as item
use Rattle.run_script.specs.Faults.{Fault, fault}
use Rattle.run_script.specs.Scripts.{ScriptView, most_steps, most_edits, most_sessions, most_boxes, IsPlan, edit_count}
use Rattle.mesh_base.specs.Limits.{most_cells, most_points, most_to_split}

-- ---- turns

abbrev pub turn : ℕ → List Area → SessionTurn
turn need areas = record { need = need; areas = areas }

-- The turns of a session's items: each box outside a hold by itself, and the boxes of a hold together. `need` is the
-- greatest wait so far, and the boxes of the hold that is open are given, where one is.
abbrev pub turns_from : ℕ → Option (List Area) → List Item → List SessionTurn
turns_from need hold [] = []
turns_from need hold (item.Wait line step ∷ items) = turns_from (max need step) hold items
turns_from need None (item.Ask area ∷ items) = turn need (area ∷ []) ∷ turns_from need None items
turns_from need (Some areas) (item.Ask area ∷ items) = turns_from need (Some (areas ++ area ∷ [])) items
turns_from need hold (item.Hold ∷ items) = turns_from need (Some []) items
turns_from need None (item.Free ∷ items) = turns_from need None items
turns_from need (Some areas) (item.Free ∷ items) = turn need areas ∷ turns_from need None items

abbrev pub turns : List Item → List SessionTurn
turns items = turns_from 0 None items

-- ---- what contracts see of a job

pub record JobView : Type 0 where
  pub mesh : MeshView
  pub plans : List Plan
  pub sessions : List (List SessionTurn)

abbrev pub steps : JobView → ℕ
steps job = length job.plans

-- the turns of session s, none where there is no such session
abbrev pub turns_of : JobView → ℕ → List SessionTurn
turns_of job s = slice_index_or job.sessions s []

-- the boxes of these turns together
abbrev pub box_count : List SessionTurn → ℕ
box_count turns = sum_by (λ t. length t.areas) turns

-- the turns of all sessions together, and their boxes
abbrev pub turn_count : JobView → ℕ
turn_count job = sum_by length job.sessions

abbrev pub all_boxes : JobView → ℕ
all_boxes job = sum_by box_count job.sessions

-- ---- the mesh of a step

abbrev pub all_edited : MeshView → List LinedEdit → MeshView
all_edited mesh [] = mesh
all_edited mesh (e ∷ edits) = all_edited (edited mesh e.edit) edits

-- the mesh after the edits of a plan in order, and then with its motion for the step k
abbrev pub planned : MeshView → Plan → ℕ → MeshView
planned mesh plan k = let m = all_edited mesh plan.edits in record { points = moved m plan.kernel k; cells = m.cells }

-- no edit, and no motion
abbrev pub idle : Plan
idle = record { edits = []; kernel = kernel.Stay }

abbrev pub plan_at : JobView → ℕ → Plan
plan_at job k = slice_index_or job.plans k idle

-- the mesh of step k: that of the job, and then each from the one before, by its plan
unfoldable pub step_at : JobView → ℕ → MeshView
step_at job zero = job.mesh
step_at job (suc k) = planned (step_at job k) (plan_at job k) (k + 1)

-- ---- the check of a job

abbrev pub has_points : ℕ → Corners → Bool
has_points n c = nat_lt c.0 n && (nat_lt c.1 n && (nat_lt c.2 n && nat_lt c.3 n))

abbrev pub are_different : Corners → Bool
are_different c =
    not (c.0 == c.1) && (not (c.0 == c.2) && (not (c.0 == c.3)
    && (not (c.1 == c.2) && (not (c.1 == c.3) && not (c.2 == c.3)))))

-- the first fault of an edit on a mesh, of which only the number of points and the cells matter
unfoldable pub edit_fault : MeshView → Edit → Option ScriptKind
edit_fault mesh (edit.Point at) = if nat_lt (length mesh.points) most_points then None else Some kinds.Limit
edit_fault mesh (edit.Add corners) =
    if not (has_points (length mesh.points) (corners_of corners)) then Some kinds.NoPoint
    else if not (are_different (corners_of corners)) then Some kinds.SameVertex
    else if nat_lt (length mesh.cells) most_cells then None
    else Some kinds.Limit
edit_fault mesh (edit.Remove i) = if is_some (cell_at mesh.cells i) then None else Some kinds.NoCell
edit_fault mesh (edit.Split i at) =
    if not (is_some (cell_at mesh.cells i)) then Some kinds.NoCell
    else if nat_lt (length mesh.points) most_points && nat_le (length mesh.cells) most_to_split then None
    else Some kinds.Limit

abbrev pub or_else : {A : Type 0} → Option A → Option A → Option A
or_else None later = later
or_else (Some x) later = Some x

abbrev pub fault_on : ℕ → Option ScriptKind → Option Fault
fault_on line None = None
fault_on line (Some kind) = Some (fault kind line)

-- the first fault of edits, each on the mesh that the ones before it leave
unfoldable pub edits_fault : MeshView → List LinedEdit → Option Fault
edits_fault mesh [] = None
edits_fault mesh (e ∷ edits) = or_else (fault_on e.line (edit_fault mesh e.edit))
    (edits_fault (edited mesh e.edit) edits)

-- the first wait for a step above the number of steps
unfoldable pub wait_fault : ℕ → List Item → Option Fault
wait_fault steps [] = None
wait_fault steps (item.Wait line step ∷ items) = if nat_le step steps then wait_fault steps items
    else Some (fault kinds.NoStep line)
wait_fault steps (item.Ask area ∷ items) = wait_fault steps items
wait_fault steps (item.Hold ∷ items) = wait_fault steps items
wait_fault steps (item.Free ∷ items) = wait_fault steps items

-- all edits of the plans, and all items of the sessions, in order
abbrev pub edits_of : List Plan → List LinedEdit
edits_of plans = flat_map (λ p. p.edits) plans

abbrev pub items_of : List (List Item) → List Item
items_of sessions = flat_map (λ s. s) sessions

abbrev pub job_of : MeshView → ScriptView → JobView
job_of mesh script = record { mesh = mesh; plans = script.plans; sessions = map turns script.sessions }

abbrev pub unless : {A : Type 0} → A → Option Fault → Result A Fault
unless x None = Ok x
unless x (Some f) = Err f

-- the first fault of a script on a mesh: of the edits, and then of the waits
abbrev pub script_fault : MeshView → ScriptView → Option Fault
script_fault mesh script = or_else (edits_fault mesh (edits_of script.plans))
    (wait_fault (length script.plans) (items_of script.sessions))

-- the job, or the first fault
unfoldable pub checked : MeshView → ScriptView → Result JobView Fault
checked mesh script = unless (job_of mesh script) (script_fault mesh script)

-- ---- what each job keeps

-- each edit fits the mesh that the ones before it leave
abbrev pub EditsFit : MeshView → List LinedEdit → Type 0
EditsFit mesh [] = Unit {0}
EditsFit mesh (e ∷ edits) = EditFits mesh e.edit × EditsFit (edited mesh e.edit) edits

pub record IsTurn (steps : ℕ) (t : SessionTurn) : Type 0 where
  pub need : t.need ≤ steps
  pub some : 0 < length t.areas

pub record IsJob (job : JobView) : Type 0 where
  pub mesh : IsMesh job.mesh.points job.mesh.cells
  pub few_steps : length job.plans ≤ most_steps
  pub few_edits : edit_count job.plans ≤ most_edits
  pub few_sessions : length job.sessions ≤ most_sessions
  pub few_turns : turn_count job ≤ most_boxes
  pub few_boxes : all_boxes job ≤ most_boxes
  pub plans : All IsPlan job.plans
  pub edits : (k : ℕ) → k < length job.plans → EditsFit (step_at job k) (plan_at job k).edits
  pub turns : All (All (IsTurn (length job.plans))) job.sessions
