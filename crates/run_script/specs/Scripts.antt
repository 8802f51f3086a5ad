-- What contracts see of a script, and what each script keeps.
use Rattle.std.specs.Prelude.{◌≡◌, ℕ, ◌+◌, ◌^◌, ◌<◌, ◌≤◌, pos, neg_ℤ, ◌≤ℤ◌, Bool, true, false, ◌⊎◌, List, [], ◌∷◌, length, Option, Some, None, All, count_by, sum_by}
use Rattle.mesh_base.specs.Place.{IsPlace, IsArea}
use Rattle.mesh_base.specs.declared.edit.Edit.{Edit}
use Rattle.mesh_base.specs.declared.edit.Edit.TheVariants as edit
use Rattle.mesh_base.specs.declared.edit.Kernel.{Kernel}
use Rattle.mesh_base.specs.declared.edit.Kernel.TheVariants as kernel
use Rattle.run_script.specs.declared.script.Plan.{Plan}
use Rattle.run_script.specs.declared.script.Item.{Item}
use Rattle.run_script.specs.declared.script.Item.TheVariants as item

-- what contracts see of a script
pub record ScriptView : Type 0 where
  pub version : ℕ
  pub plans : List Plan
  pub sessions : List (List Item)

-- ---- the limits of a script

abbrev pub most_steps : ℕ
most_steps = 10000

abbrev pub most_edits : ℕ
most_edits = 1000000

abbrev pub most_sessions : ℕ
most_sessions = 8

abbrev pub most_boxes : ℕ
most_boxes = 100000

-- ---- ranges

-- the numbers of the edit are in the ranges that a text allows
abbrev pub IsEdit : Edit → Type 0
IsEdit (edit.Point at) = IsPlace at
IsEdit (edit.Add corners) = (length corners ≡ 4) × All (λ c. c < 2 ^ 32) corners
IsEdit (edit.Remove i) = i < 2 ^ 32
IsEdit (edit.Split i at) = (i < 2 ^ 32) × IsPlace at

-- so are those of the motion
abbrev pub IsKernel : Kernel → Type 0
IsKernel kernel.Stay = Unit {0}
IsKernel (kernel.Shift dx dy dz) = IsPlace (dx, dy, dz)
IsKernel (kernel.Pull to num den) = IsPlace to × (neg_ℤ (pos 1024) ≤ℤ num) × (num ≤ℤ pos 1024) × (pos 1 ≤ℤ den)
    × (den ≤ℤ pos 1024)
IsKernel (kernel.Shake seed amp) = (seed ≤ 65535) × (amp ≤ 1000)
IsKernel kernel.Relax = Unit {0}
IsKernel (kernel.Turn axis) = Unit {0}

-- so are those of the item
abbrev pub IsItem : Item → Type 0
IsItem (item.Wait line step) = step ≤ 10000
IsItem (item.Ask area) = IsPlace area.lo × IsPlace area.hi × IsArea area.lo area.hi
IsItem item.Hold = Unit {0}
IsItem item.Free = Unit {0}

pub record IsPlan (plan : Plan) : Type 0 where
  pub edits : All (λ e. IsEdit e.edit) plan.edits
  pub kernel : IsKernel plan.kernel

-- ---- holds

-- the items close the hold that is open with so many boxes, and each of theirs: a hold has its free, with a box or more
-- and nothing else between them
abbrev pub HoldsClose : Option ℕ → List Item → Type 0
HoldsClose None [] = Unit {0}
HoldsClose (Some boxes) [] = ⊥
HoldsClose None (item.Wait line step ∷ items) = HoldsClose None items
HoldsClose (Some boxes) (item.Wait line step ∷ items) = ⊥
HoldsClose None (item.Ask area ∷ items) = HoldsClose None items
HoldsClose (Some boxes) (item.Ask area ∷ items) = HoldsClose (Some (boxes + 1)) items
HoldsClose None (item.Hold ∷ items) = HoldsClose (Some 0) items
HoldsClose (Some boxes) (item.Hold ∷ items) = ⊥
HoldsClose None (item.Free ∷ items) = ⊥
HoldsClose (Some boxes) (item.Free ∷ items) = (0 < boxes) × HoldsClose None items

abbrev pub is_hold : Item → Bool
is_hold item.Hold = true
is_hold other = false

abbrev pub is_ask : Item → Bool
is_ask (item.Ask area) = true
is_ask other = false

pub record IsSession (version : ℕ) (items : List Item) : Type 0 where
  pub fit : All IsItem items
  pub closed : HoldsClose None items
  -- holds stand in version 2 alone
  pub version_1 : version ≡ 1 → count_by is_hold items ≡ 0

-- ---- scripts

abbrev pub edit_count : List Plan → ℕ
edit_count plans = sum_by (λ p. length p.edits) plans

-- how many boxes are asked
abbrev pub ask_count : List (List Item) → ℕ
ask_count sessions = sum_by (count_by is_ask) sessions

pub record IsScript (script : ScriptView) : Type 0 where
  pub version : (script.version ≡ 1) ⊎ (script.version ≡ 2)
  pub few_steps : length script.plans ≤ most_steps
  pub few_edits : edit_count script.plans ≤ most_edits
  pub few_sessions : length script.sessions ≤ most_sessions
  pub few_boxes : ask_count script.sessions ≤ most_boxes
  pub plans : All IsPlan script.plans
  pub sessions : All (IsSession script.version) script.sessions
