-- What is printed of a script.
use Rattle.std.specs.Prelude.{◌≡◌, ℕ, true, pos, List, [], ◌∷◌, ◌++◌, map, flat_map, codes}
use Rattle.std.specs.List.{AllByRecursion}
use Rattle.oct_text.specs.Rest.{is_word}
use Rattle.std.specs.Fmt.{signed_decimal}
use Rattle.mesh_base.specs.Place.{Place}
use Rattle.mesh_base.specs.declared.edit.Axis.{Axis}
use Rattle.mesh_base.specs.declared.edit.Axis.TheVariants as axis
use Rattle.mesh_base.specs.declared.edit.Edit.{Edit}
use Rattle.mesh_base.specs.declared.edit.Edit.TheVariants as edit
use Rattle.mesh_base.specs.declared.edit.Kernel.{Kernel}
use Rattle.mesh_base.specs.declared.edit.Kernel.TheVariants as kernel
use Rattle.run_script.specs.declared.script.LinedEdit.{LinedEdit}
use Rattle.run_script.specs.declared.script.Plan.{Plan}
use Rattle.run_script.specs.declared.script.Item.{Item}
use Rattle.run_script.specs.declared.script.Item.TheVariants as item
use Rattle.run_script.specs.Scripts.{ScriptView}
use Rattle.script_format.specs.ScriptText.{Word}

-- a number in decimal
abbrev pub number_word : ℕ → Word
number_word n = signed_decimal (pos n)

abbrev pub place_words : Place → List Word
place_words p = signed_decimal p.0 ∷ signed_decimal p.1 ∷ signed_decimal p.2 ∷ []

abbrev pub axis_word : Axis → Word
axis_word axis.X = codes "x"
axis_word axis.Y = codes "y"
axis_word axis.Z = codes "z"

-- ---- the words of each line

abbrev pub edit_words : Edit → List Word
edit_words (edit.Point at) = codes "point" ∷ place_words at
edit_words (edit.Add corners) = codes "add" ∷ map number_word corners
edit_words (edit.Remove i) = codes "remove" ∷ number_word i ∷ []
edit_words (edit.Split i at) = codes "split" ∷ number_word i ∷ place_words at

abbrev pub kernel_words : Kernel → List Word
kernel_words kernel.Stay = codes "stay" ∷ []
kernel_words (kernel.Shift dx dy dz) = codes "shift" ∷ signed_decimal dx ∷ signed_decimal dy ∷ signed_decimal dz ∷ []
kernel_words (kernel.Pull to num den) = codes "pull" ∷ place_words to ++ (signed_decimal num ∷ signed_decimal den ∷ [])
kernel_words (kernel.Shake seed amp) = codes "shake" ∷ number_word seed ∷ number_word amp ∷ []
kernel_words kernel.Relax = codes "relax" ∷ []
kernel_words (kernel.Turn axis) = codes "turn" ∷ axis_word axis ∷ []

abbrev pub item_words : Item → List Word
item_words (item.Wait line step) = codes "wait" ∷ number_word step ∷ []
item_words (item.Ask area) = codes "box" ∷ place_words area.lo ++ place_words area.hi
item_words item.Hold = codes "hold" ∷ []
item_words item.Free = codes "free" ∷ []

-- ---- the text: single spaces between the words of a line, and LF behind them

abbrev pub spaced : List Word → List ℕ
spaced words = flat_map (λ w. 32 ∷ w) words

abbrev pub line_spelling : List Word → List ℕ
line_spelling [] = 10 ∷ []
line_spelling (w ∷ words) = w ++ (spaced words ++ 10 ∷ [])

abbrev pub edit_line : LinedEdit → List ℕ
edit_line e = line_spelling (edit_words e.edit)

abbrev pub item_line : Item → List ℕ
item_line i = line_spelling (item_words i)

-- a plan's edits, and its move
abbrev pub plan_spelling : Plan → List ℕ
plan_spelling plan = flat_map edit_line plan.edits ++ line_spelling (kernel_words plan.kernel)

-- the line of a session, and its items
abbrev pub session_spelling : List Item → List ℕ
session_spelling items = line_spelling (codes "session" ∷ []) ++ flat_map item_line items

unfoldable pub script_spelling : ScriptView → List ℕ
script_spelling script =
    line_spelling (codes "octopus" ∷ codes "script" ∷ number_word script.version ∷ [])
    ++ (flat_map plan_spelling script.plans ++ (flat_map session_spelling script.sessions
    ++ line_spelling (codes "end" ∷ [])))

-- ---- scripts but for their line numbers

abbrev pub unlined_edit : LinedEdit → LinedEdit
unlined_edit e = record { line = 0; edit = e.edit }

abbrev pub unlined_plan : Plan → Plan
unlined_plan plan = record { edits = map unlined_edit plan.edits; kernel = plan.kernel }

abbrev pub unlined_item : Item → Item
unlined_item (item.Wait line step) = item.Wait 0 step
unlined_item (item.Ask area) = item.Ask area
unlined_item item.Hold = item.Hold
unlined_item item.Free = item.Free

-- the script with all line numbers 0
abbrev pub unlined : ScriptView → ScriptView
unlined script = record {
  version = script.version;
  plans = map unlined_plan script.plans;
  sessions = map (map unlined_item) script.sessions;
}

-- each has at least one byte, and no blank
abbrev pub AreWords : List Word → Type 0
AreWords ws = AllByRecursion (λ w. is_word w ≡ true) ws
