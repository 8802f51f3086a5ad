-- What a reader keeps of the rows that came. A text's meaning is defined without it, in ScriptText.
use Rattle.std.specs.Prelude.{◌≡◌, ℕ, ◌+◌, ◌≤◌, true, false, List, [], ◌∷◌, ◌++◌, length, drop, Option, Some, None, IfSome, Result, Ok, Err, if◌then◌else◌}
use Rattle.std.specs.Option.{option_map, option_to_list}
use Rattle.run_script.specs.declared.fault.ScriptFault.{ScriptFault}
use Rattle.run_script.specs.declared.fault.ScriptKind.TheVariants as kinds
use Rattle.run_script.specs.declared.script.Item.{Item}
use Rattle.run_script.specs.declared.script.Item.TheVariants as item
use Rattle.script_format.specs.declared.row.Row.{Row}
use Rattle.script_format.specs.declared.row.Row.TheVariants as row
use Rattle.script_format.specs.declared.row.Standing.{Standing}
use Rattle.script_format.specs.declared.reading.Reading.{Reading}
use Rattle.script_format.specs.Rows.{plans, waiting, standing}
use Rattle.run_script.specs.Faults.{Fault, fault}
use Rattle.run_script.specs.Scripts.{ScriptView}
use Rattle.script_format.specs.ScriptText.{on_line, words, lines, row_of_line, rows_of}
use Rattle.run_script.specs.Outcome.{IsFault}

-- what rows amount to with one more box
abbrev pub with_box : Standing → Standing
with_box at = record at { hold = option_map (λ n. n + 1) at.hold; boxes = at.boxes + 1 }

-- what they amount to with one more row
abbrev pub with_row : Row → Standing → Standing
with_row (row.Edit e) at = record at { edits_wait = true; edits = at.edits + 1 }
with_row (row.Move k) at = record at { edits_wait = false; steps = at.steps + 1 }
with_row row.Session at = record at { in_sessions = true; sessions = at.sessions + 1 }
with_row (row.Does (item.Wait line step)) at = at
with_row (row.Does (item.Ask area)) at = with_box at
with_row (row.Does item.Hold) at = record at { hold = Some 0 }
with_row (row.Does item.Free) at = record at { hold = None }
with_row row.End at = record at { has_ended = true }

-- no count is above n
pub record CountsAtMost (n : ℕ) (at : Standing) : Type 0 where
  pub steps : at.steps ≤ n
  pub edits : at.edits ≤ n
  pub sessions : at.sessions ≤ n
  pub boxes : at.boxes ≤ n
  pub hold : IfSome at.hold (λ boxes. boxes ≤ n)

-- the groups of items that a session line has ended, and the items behind the last such line
abbrev pub closed : List Item → List Row → List (List Item)
closed items [] = []
closed items (row.Session ∷ rows) = items ∷ closed [] rows
closed items (row.Does i ∷ rows) = closed (items ++ i ∷ []) rows
closed items (row.Edit e ∷ rows) = closed items rows
closed items (row.Move k ∷ rows) = closed items rows
closed items (row.End ∷ rows) = closed items rows

abbrev pub opened : List Item → List Row → List Item
opened items [] = items
opened items (row.Session ∷ rows) = opened [] rows
opened items (row.Does i ∷ rows) = opened (items ++ i ∷ []) rows
opened items (row.Edit e ∷ rows) = opened items rows
opened items (row.Move k ∷ rows) = opened items rows
opened items (row.End ∷ rows) = opened items rows

-- what the reader keeps is what these rows say
pub record Stands (before : List Row) (reading : Reading) : Type 0 where
  pub standing : reading.standing ≡ standing before
  pub plans : reading.plans.items ≡ plans [] before
  pub edits : reading.edits.items ≡ waiting [] before
  pub groups : reading.groups.items ≡ closed [] before
  pub items : reading.items.items ≡ opened [] before

-- a line was taken: it has this row, or none, and the reader keeps it; or the line has this fault
abbrev pub TakesLine : ℕ → ℕ → List Row → List ℕ → Result (Unit {0}) ScriptFault → Reading → Type 0
TakesLine version n before line (Ok done) new =
    (row : Option Row) × (row_of_line version n (standing before) (words line) ≡ Ok row)
    × Stands (before ++ option_to_list row) new
TakesLine version n before line (Err e) new = IsFault e
    (on_line n (row_of_line version n (standing before) (words line)))

-- all lines but the first, of which the first `line` have been read with the header, and what is left of the text
pub record IsReading (version : ℕ) (all : List (List ℕ)) (size line : ℕ) (rest : List ℕ)
    (reading : Reading) : Type 0 where
  pub before : List Row
  pub stands : Stands before reading
  pub goes_on : rows_of version 2 [] all ≡ rows_of version (line + 1) before (lines rest)
  pub count : line + length (lines rest) ≡ length all + 1
  pub room : line + length rest ≤ size
  pub few : CountsAtMost line reading.standing

-- the script that the reader has, if the text ends here
abbrev pub script_read : ℕ → Reading → ScriptView
script_read version reading = record {
  version = version;
  plans = reading.plans.items;
  sessions = drop 1 (reading.groups.items ++ reading.items.items ∷ []);
}

abbrev pub outcome_read : ℕ → ℕ → Reading → Result ScriptView Fault
outcome_read version count reading =
    if reading.standing.has_ended then Ok (script_read version reading) else Err (fault kinds.Truncated count)
