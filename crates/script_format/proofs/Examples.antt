-- What the definitions say of small scripts.
use Rattle.std.proofs.Common.{◌≡◌, ℕ, List, [], ◌∷◌, ◌++◌, refl}
use Rattle.std.specs.Prelude.{Ok, Err, codes, pos}
use Rattle.mesh_base.specs.Place.{Place, Area}
use Rattle.mesh_base.specs.declared.edit.Edit.TheVariants as edit
use Rattle.mesh_base.specs.declared.edit.Kernel.TheVariants as kernel
use Rattle.oct_text.specs.Numbers.{signed_of}
use Rattle.run_script.specs.declared.fault.ScriptKind.{ScriptKind}
use Rattle.run_script.specs.declared.fault.ScriptKind.TheVariants as kinds
use Rattle.run_script.specs.Faults.{fault}
use Rattle.run_script.specs.Scripts.{ScriptView}
use Rattle.run_script.specs.declared.script.Item.TheVariants as item
use Rattle.script_format.specs.ScriptText.{lines, words, place, corners, row_of, row_of_line, rows_of, header, script_text}

-- these lines, each ended by LF
abbrev text_of : List (List ℕ) → List ℕ
text_of [] = []
text_of (line ∷ rest) = line ++ (10 ∷ text_of rest)

abbrev first_lines : List (List ℕ) → List ℕ
first_lines rest = text_of (codes "octopus script 1" ∷ rest)

abbrev second_lines : List (List ℕ) → List ℕ
second_lines rest = text_of (codes "octopus script 2" ∷ rest)

abbrev Refused : List ℕ → ScriptKind → ℕ → Type 0
Refused text kind line = script_text text ≡ Err (fault kind line)

number : Refused (first_lines (codes "shift a 0 0" ∷ codes "end" ∷ [])) kinds.Number 2
unfolding script_text lines words header rows_of row_of_line row_of place corners signed_of
number = refl

few : Refused (first_lines (codes "shift 1 0" ∷ codes "end" ∷ [])) kinds.Word 2
unfolding script_text lines words header rows_of row_of_line row_of place corners signed_of
few = refl

range : Refused (first_lines (codes "shift 1073741825 0 0" ∷ codes "end" ∷ [])) kinds.Range 2
unfolding script_text lines words header rows_of row_of_line row_of place corners signed_of
range = refl

low_above_high : Refused (first_lines (codes "session" ∷ codes "box 4 0 0 0 0 0" ∷ codes "end" ∷ [])) kinds.Box 3
unfolding script_text lines words header rows_of row_of_line row_of place corners signed_of
low_above_high = refl

edits_wait : Refused (first_lines (codes "point 1 1 1" ∷ codes "end" ∷ [])) kinds.Order 3
unfolding script_text lines words header rows_of row_of_line row_of place corners signed_of
edits_wait = refl

no_end : Refused (first_lines (codes "stay" ∷ [])) kinds.Truncated 2
unfolding script_text lines words header rows_of row_of_line row_of place corners signed_of
no_end = refl

nothing : Refused [] kinds.Truncated 0
unfolding script_text lines words header rows_of row_of_line row_of place corners signed_of
nothing = refl

other_version : Refused (codes "octopus script 9") kinds.Header 1
unfolding script_text lines words header rows_of row_of_line row_of place corners signed_of
other_version = refl

free_alone : Refused (second_lines (codes "session" ∷ codes "free" ∷ codes "end" ∷ [])) kinds.Order 3
unfolding script_text lines words header rows_of row_of_line row_of place corners signed_of
free_alone = refl

hold_at_end : Refused (second_lines (codes "session" ∷ codes "hold" ∷ codes "end" ∷ [])) kinds.Order 4
unfolding script_text lines words header rows_of row_of_line row_of place corners signed_of
hold_at_end = refl

empty_hold : Refused (second_lines (codes "session" ∷ codes "hold" ∷ codes "free" ∷ codes "end" ∷ [])) kinds.Order 4
unfolding script_text lines words header rows_of row_of_line row_of place corners signed_of
empty_hold = refl

wait_in_hold : Refused (second_lines (codes "session" ∷ codes "hold" ∷ codes "wait 0" ∷ codes "end" ∷ [])) kinds.Order 4
unfolding script_text lines words header rows_of row_of_line row_of place corners signed_of
wait_in_hold = refl

hold_in_version_1 : Refused (first_lines (codes "session" ∷ codes "hold" ∷ codes "end" ∷ [])) kinds.Word 3
unfolding script_text lines words header rows_of row_of_line row_of place corners signed_of
hold_in_version_1 = refl

-- ---- a script that splits a cell twice

abbrev at : ℕ → ℕ → ℕ → Place
at x y z = (pos x, pos y, pos z)

abbrev box : Place → Place → Area
box lo hi = record { lo = lo; hi = hi }

abbrev splits : ScriptView
splits = record {
  version = 1;
  plans = record {
    edits = record { line = 2; edit = edit.Split 0 (at 4 4 4) } ∷ record { line = 3; edit = edit.Split 2 (at 2 6 3) } ∷ [];
    kernel = kernel.Stay;
  } ∷ [];
  sessions = (item.Ask (box (at 4 4 4) (at 4 4 4)) ∷ []) ∷ [];
}

split_lines : script_text (first_lines (codes "split 0 4 4 4" ∷ codes "split 2 2 6 3" ∷ codes "stay" ∷ codes "session" ∷ codes "box 4 4 4 4 4 4" ∷ codes "end" ∷ [])) ≡ Ok splits
unfolding script_text lines words header rows_of row_of_line row_of place corners signed_of
split_lines = refl

-- ---- comments, blank lines, tabs, CR, and a last line without LF

abbrev shifts : ScriptView
shifts = record {
  version = 2;
  plans = record { edits = []; kernel = kernel.Shift (pos 1) (pos 0) (pos 0) } ∷ [];
  sessions = (item.Wait 6 1 ∷ item.Hold ∷ item.Ask (box (at 0 0 0) (at 1 0 0)) ∷ item.Ask (box (at 7 0 0) (at 7 0 0)) ∷ item.Free ∷ item.Ask (box (at 1 6 0) (at 1 6 0)) ∷ []) ∷ [] ∷ [];
}

held_lines : script_text (
    second_lines (codes "# a comment" ∷ (codes "shift  1 0 0" ++ 9 ∷ 13 ∷ []) ∷ [] ∷ codes "session" ∷ codes "wait +1" ∷ codes "hold" ∷ codes "box 0 0 0 1 -0 0"
    ∷ codes "box 7 0 0 007 0 0" ∷ codes "free" ∷ codes "box 1 6 0 1 6 0" ∷ codes "session" ∷ [])
    ++ codes " end") ≡ Ok shifts
unfolding script_text lines words header rows_of row_of_line row_of place corners signed_of
held_lines = refl
