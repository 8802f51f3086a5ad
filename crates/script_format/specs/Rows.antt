-- Rows: what the lines of a script say, and what several of them in order amount to.
use Rattle.std.specs.Prelude.{ℕ, ◌+◌, Bool, true, false, nat_lt, List, [], ◌∷◌, ◌++◌, length, drop, Option, Some, None, count_by}
use Rattle.std.specs.List.{list_any}
use Rattle.std.specs.Option.{option_map}
use Rattle.run_script.specs.declared.script.LinedEdit.{LinedEdit}
use Rattle.run_script.specs.declared.script.Plan.{Plan}
use Rattle.run_script.specs.declared.script.Item.{Item}
use Rattle.run_script.specs.declared.script.Item.TheVariants as item
use Rattle.script_format.specs.declared.row.Row.{Row}
use Rattle.script_format.specs.declared.row.Standing.{Standing}
use Rattle.script_format.specs.declared.row.Row.TheVariants as row

-- ---- kinds of rows

abbrev pub is_edit : Row → Bool
is_edit (row.Edit e) = true
is_edit other = false

abbrev pub is_move : Row → Bool
is_move (row.Move k) = true
is_move other = false

abbrev pub is_session : Row → Bool
is_session row.Session = true
is_session other = false

abbrev pub is_box : Row → Bool
is_box (row.Does (item.Ask area)) = true
is_box other = false

abbrev pub is_end : Row → Bool
is_end row.End = true
is_end other = false

-- ---- steps: a move ends a step, whose plan has the edits since the move before

-- the plans of the rows, where these edits wait for their move
abbrev pub plans : List LinedEdit → List Row → List Plan
plans edits [] = []
plans edits (row.Edit e ∷ rows) = plans (edits ++ e ∷ []) rows
plans edits (row.Move k ∷ rows) = record { edits = edits; kernel = k } ∷ plans [] rows
plans edits (row.Session ∷ rows) = plans edits rows
plans edits (row.Does i ∷ rows) = plans edits rows
plans edits (row.End ∷ rows) = plans edits rows

-- the edits that wait for their move behind the rows
abbrev pub waiting : List LinedEdit → List Row → List LinedEdit
waiting edits [] = edits
waiting edits (row.Edit e ∷ rows) = waiting (edits ++ e ∷ []) rows
waiting edits (row.Move k ∷ rows) = waiting [] rows
waiting edits (row.Session ∷ rows) = waiting edits rows
waiting edits (row.Does i ∷ rows) = waiting edits rows
waiting edits (row.End ∷ rows) = waiting edits rows

-- ---- sessions: a session begins with its line, and has the items up to the next such line

-- the items in front of the first session line, and then those of each session, where these items came before the rows
abbrev pub groups : List Item → List Row → List (List Item)
groups items [] = items ∷ []
groups items (row.Session ∷ rows) = items ∷ groups [] rows
groups items (row.Does i ∷ rows) = groups (items ++ i ∷ []) rows
groups items (row.Edit e ∷ rows) = groups items rows
groups items (row.Move k ∷ rows) = groups items rows
groups items (row.End ∷ rows) = groups items rows

-- the items of each session
abbrev pub sessions : List Row → List (List Item)
sessions rows = drop 1 (groups [] rows)

-- ---- holds

-- how many boxes came since the hold that is open behind the items, where one is open
abbrev pub held : Option ℕ → List Item → Option ℕ
held boxes [] = boxes
held boxes (item.Hold ∷ items) = held (Some 0) items
held boxes (item.Free ∷ items) = held None items
held boxes (item.Ask area ∷ items) = held (option_map (λ n. n + 1) boxes) items
held boxes (item.Wait line step ∷ items) = held boxes items

-- all items of the rows, in order
abbrev pub items : List Row → List Item
items [] = []
items (row.Does i ∷ rows) = i ∷ items rows
items (row.Edit e ∷ rows) = items rows
items (row.Move k ∷ rows) = items rows
items (row.Session ∷ rows) = items rows
items (row.End ∷ rows) = items rows

-- ---- what the rows before a line amount to

abbrev pub standing : List Row → Standing
standing before = record {
  in_sessions = list_any is_session before;
  edits_wait = nat_lt 0 (length (waiting [] before));
  hold = held None (items before);
  has_ended = list_any is_end before;
  steps = count_by is_move before;
  edits = count_by is_edit before;
  sessions = count_by is_session before;
  boxes = count_by is_box before;
}
