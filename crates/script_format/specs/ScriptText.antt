-- What a script text says. Each line is a row of the table below, or has a first fault, and the rows before it decide
-- which.
use Rattle.std.specs.Prelude.{ℕ, ◌+◌, ◌-◌, ◌^◌, Bool, true, false, not, ◌||◌, ◌&&◌, ◌==◌, nat_lt, nat_le, if◌then◌else◌, List, [], ◌∷◌, ◌++◌, length, map, filter, Option, Some, None, Result, Ok, Err, ℤ, pos, neg_ℤ, unsigned_abs, codes}
use Rattle.std.specs.List.{slice_split, list_any}
use Rattle.std.specs.Option.{is_some, option_to_list}
use Rattle.std.specs.Str.{bytes_eq}
use Rattle.std.specs.Cmp.Lexicographic.{pointwise}
use Rattle.mesh_base.specs.Place.{Place, Area, is_area}
use Rattle.mesh_base.specs.declared.edit.Axis.{Axis}
use Rattle.mesh_base.specs.declared.edit.Axis.TheVariants as axis
use Rattle.mesh_base.specs.declared.edit.Edit.TheVariants as edit
use Rattle.mesh_base.specs.declared.edit.Kernel.TheVariants as kernel
use Rattle.oct_text.specs.Line.{without_cr}
use Rattle.oct_text.specs.Numbers.{signed_of}
use Rattle.oct_text.specs.declared.numbers.CountFault.{CountFault}
use Rattle.oct_text.specs.declared.numbers.CountFault.TheVariants as count_faults
use Rattle.run_script.specs.declared.fault.ScriptKind.{ScriptKind}
use Rattle.run_script.specs.declared.fault.ScriptKind.TheVariants as kinds
use Rattle.run_script.specs.declared.script.Item.TheVariants as item
use Rattle.run_script.specs.Faults.{Fault, fault}
use Rattle.run_script.specs.Scripts.{ScriptView, most_steps, most_edits, most_sessions, most_boxes}
use Rattle.script_format.specs.declared.row.Command.{Command}
use Rattle.script_format.specs.declared.row.Command.TheVariants as command
use Rattle.script_format.specs.declared.row.Row.{Row}
use Rattle.script_format.specs.declared.row.Row.TheVariants as row
use Rattle.script_format.specs.declared.row.Standing.{Standing}
use Rattle.script_format.specs.Rows.{is_end, plans, sessions, standing}

-- ---- outcomes

-- one thing after another: the first fault stays
infixl 10 ◌>>=◌
abbrev pub ◌>>=◌ : {A B E : Type 0} → Result A E → (A → Result B E) → Result B E
(Ok x) >>= f = f x
(Err e) >>= f = Err e

-- ---- lines and words

abbrev pub Word : Type 0
Word = List ℕ

abbrev pub is_lf : ℕ → Bool
is_lf b = b == 10

-- a space or a tab
abbrev pub is_space : ℕ → Bool
is_space b = (b == 32) || (b == 9)

-- without a last piece that is empty
abbrev pub without_empty_end : List (List ℕ) → List (List ℕ)
without_empty_end [] = []
without_empty_end (p ∷ []) = if length p == 0 then [] else p ∷ []
without_empty_end (p ∷ (q ∷ ps)) = p ∷ without_empty_end (q ∷ ps)

-- the pieces between the LFs of a text, each without one CR at its end
unfoldable pub lines : List ℕ → List (List ℕ)
lines text = map without_cr (without_empty_end (slice_split is_lf text))

-- the pieces of a line between its spaces and tabs, but for the empty ones
unfoldable pub words : List ℕ → List Word
words line = filter (λ w. nat_lt 0 (length w)) (slice_split is_space line)

-- ---- the table: first words, and how many words a line has with them

abbrev pub spelling : Command → Word
spelling command.Point = codes "point"
spelling command.Add = codes "add"
spelling command.Remove = codes "remove"
spelling command.Split = codes "split"
spelling command.Stay = codes "stay"
spelling command.Shift = codes "shift"
spelling command.Pull = codes "pull"
spelling command.Shake = codes "shake"
spelling command.Relax = codes "relax"
spelling command.Turn = codes "turn"
spelling command.Session = codes "session"
spelling command.Wait = codes "wait"
spelling command.Box = codes "box"
spelling command.End = codes "end"
spelling command.Hold = codes "hold"
spelling command.Free = codes "free"

-- the commands of sessions, of which a hold and its free stand in version 2 alone
abbrev pub session_commands : ℕ → List Command
session_commands version =
    command.Session ∷ command.Wait ∷ command.Box ∷ command.End
    ∷ (if version == 2 then command.Hold ∷ command.Free ∷ [] else [])

-- all commands of a version
abbrev pub commands : ℕ → List Command
commands version =
    command.Point ∷ command.Add ∷ command.Remove ∷ command.Split ∷ command.Stay ∷ command.Shift ∷ command.Pull
    ∷ command.Shake ∷ command.Relax
    ∷ command.Turn ∷ session_commands version

-- the command that is spelled so
abbrev pub spelled : List Command → Word → Result Command ScriptKind
spelled [] word = Err kinds.Word
spelled (c ∷ cs) word = if bytes_eq word (spelling c) then Ok c else spelled cs word

abbrev pub words_of : Command → ℕ
words_of command.Point = 4
words_of command.Add = 5
words_of command.Remove = 2
words_of command.Split = 5
words_of command.Stay = 1
words_of command.Shift = 4
words_of command.Pull = 6
words_of command.Shake = 3
words_of command.Relax = 1
words_of command.Turn = 2
words_of command.Session = 1
words_of command.Wait = 2
words_of command.Box = 7
words_of command.End = 1
words_of command.Hold = 1
words_of command.Free = 1

-- ---- the order of lines

abbrev pub adds_edit : Command → Bool
adds_edit command.Point = true
adds_edit command.Add = true
adds_edit command.Remove = true
adds_edit command.Split = true
adds_edit other = false

abbrev pub adds_move : Command → Bool
adds_move command.Stay = true
adds_move command.Shift = true
adds_move command.Pull = true
adds_move command.Shake = true
adds_move command.Relax = true
adds_move command.Turn = true
adds_move other = false

-- it stands within a session
abbrev pub adds_item : Command → Bool
adds_item command.Wait = true
adds_item command.Box = true
adds_item command.Hold = true
adds_item command.Free = true
adds_item other = false

-- `session` or `end`
abbrev pub ends_steps : Command → Bool
ends_steps command.Session = true
ends_steps command.End = true
ends_steps other = false

-- it can't stand between a hold and its free
abbrev pub ends_turns : Command → Bool
ends_turns command.Wait = true
ends_turns command.Hold = true
ends_turns command.Session = true
ends_turns command.End = true
ends_turns other = false

abbrev pub is_free : Command → Bool
is_free command.Free = true
is_free other = false

-- a hold with a box behind it is open
abbrev pub can_free : Option ℕ → Bool
can_free None = false
can_free (Some boxes) = nat_lt 0 boxes

-- it can't stand behind rows that amount to this
abbrev pub is_misplaced : Standing → Command → Bool
is_misplaced at c =
    (at.in_sessions && (adds_edit c || adds_move c))
    || (not at.in_sessions && adds_item c)
    || (at.edits_wait && ends_steps c)
    || (is_some at.hold && ends_turns c)
    || (not (can_free at.hold) && is_free c)
    || at.has_ended

-- ---- one too many

abbrev pub is_box_line : Command → Bool
is_box_line command.Box = true
is_box_line other = false

abbrev pub is_session_line : Command → Bool
is_session_line command.Session = true
is_session_line other = false

abbrev pub is_one_too_many : Standing → Command → Bool
is_one_too_many at c =
    (adds_move c && nat_le most_steps at.steps)
    || (adds_edit c && nat_le most_edits at.edits)
    || (is_session_line c && nat_le most_sessions at.sessions)
    || (is_box_line c && nat_le most_boxes at.boxes)

-- ---- values, from the left to the right

-- what was read of the values of a line, and those that are left
abbrev pub Read : Type 0 → Type 0
Read A = Result (A × List Word) ScriptKind

abbrev pub valued : {A : Type 0} → List Word → (ℤ → A) → Result ℤ CountFault → Read A
valued left view (Ok z) = Ok (view z, left)
valued left view (Err count_faults.Bad) = Err kinds.Number
valued left view (Err count_faults.Over) = Err kinds.Range

-- a signed number from least to most, as a value
abbrev pub number_as : {A : Type 0} → (ℤ → A) → ℤ → ℤ → List Word → Read A
number_as view least most [] = Err kinds.Word
number_as view least most (w ∷ left) = valued left view (signed_of w least most)

abbrev pub signed : ℤ → ℤ → List Word → Read ℤ
signed least most values = number_as (λ z. z) least most values

-- a number from 0 to most
abbrev pub number : ℕ → List Word → Read ℕ
number most values = number_as unsigned_abs (pos 0) (pos most) values

-- from -2^30 to 2^30
abbrev pub coordinate : List Word → Read ℤ
coordinate values = signed (neg_ℤ (pos (2 ^ 30))) (pos (2 ^ 30)) values

-- the number of a point or of a cell
abbrev pub index : List Word → Read ℕ
index values = number (2 ^ 32 - 1) values

unfoldable pub place : List Word → Read Place
place values = do
  x ← coordinate values
  y ← coordinate x.1
  z ← coordinate y.1
  Ok ((x.0, y.0, z.0), z.1)

unfoldable pub corners : List Word → Result (List ℕ) ScriptKind
corners values = do
  a ← index values
  b ← index a.1
  c ← index b.1
  d ← index c.1
  Ok (a.0 ∷ b.0 ∷ c.0 ∷ d.0 ∷ [])

-- `x`, `y` or `z`
abbrev pub axis_spelled : Word → Result Axis ScriptKind
axis_spelled word =
    if bytes_eq word (codes "x") then Ok axis.X
    else if bytes_eq word (codes "y") then Ok axis.Y
    else if bytes_eq word (codes "z") then Ok axis.Z
    else Err kinds.Word

abbrev pub axis_of : List Word → Result Axis ScriptKind
axis_of [] = Err kinds.Word
axis_of (w ∷ left) = axis_spelled w

abbrev pub area_of : Place → Place → Result Area ScriptKind
area_of lo hi = if is_area lo hi then Ok (record { lo = lo; hi = hi }) else Err kinds.Box

-- ---- rows: the line has this number, this command and these values

unfoldable pub row_of : ℕ → Command → List Word → Result Row ScriptKind
row_of n command.Point values = do
  p ← place values
  Ok (row.Edit (record { line = n; edit = edit.Point p.0 }))
row_of n command.Add values = do
  cs ← corners values
  Ok (row.Edit (record { line = n; edit = edit.Add cs }))
row_of n command.Remove values = do
  i ← index values
  Ok (row.Edit (record { line = n; edit = edit.Remove i.0 }))
row_of n command.Split values = do
  i ← index values
  p ← place i.1
  Ok (row.Edit (record { line = n; edit = edit.Split i.0 p.0 }))
row_of n command.Stay values = Ok (row.Move kernel.Stay)
row_of n command.Shift values = do
  d ← place values
  Ok (row.Move (kernel.Shift (d.0).0 (d.0).1 (d.0).2))
row_of n command.Pull values = do
  to ← place values
  num ← signed (neg_ℤ (pos 1024)) (pos 1024) to.1
  den ← signed (pos 1) (pos 1024) num.1
  Ok (row.Move (kernel.Pull to.0 num.0 den.0))
row_of n command.Shake values = do
  seed ← number 65535 values
  amp ← number 1000 seed.1
  Ok (row.Move (kernel.Shake seed.0 amp.0))
row_of n command.Relax values = Ok (row.Move kernel.Relax)
row_of n command.Turn values = do
  a ← axis_of values
  Ok (row.Move (kernel.Turn a))
row_of n command.Session values = Ok row.Session
row_of n command.Wait values = do
  k ← number 10000 values
  Ok (row.Does (item.Wait n k.0))
row_of n command.Box values = do
  lo ← place values
  hi ← place lo.1
  area ← area_of lo.0 hi.0
  Ok (row.Does (item.Ask area))
row_of n command.Hold values = Ok (row.Does item.Hold)
row_of n command.Free values = Ok (row.Does item.Free)
row_of n command.End values = Ok row.End

-- the checks of a line with this command, in their order, behind rows that amount to this
abbrev pub checked_row : ℕ → Standing → List Word → Command → Result Row ScriptKind
checked_row n at values c =
    if is_misplaced at c then Err kinds.Order
    else if not (length values + 1 == words_of c) then Err kinds.Word
    else if is_one_too_many at c then Err kinds.Limit
    else row_of n c values

-- a comment begins with a number sign
abbrev pub is_comment : Word → Bool
is_comment [] = false
is_comment (b ∷ bs) = b == 35

abbrev pub some_row : Row → Result (Option Row) ScriptKind
some_row r = Ok (Some r)

-- the row of a line with these words; none of a line without words, and none of a comment
unfoldable pub row_of_line : ℕ → ℕ → Standing → List Word → Result (Option Row) ScriptKind
row_of_line version n at [] = Ok None
row_of_line version n at (w ∷ values) =
    if is_comment w then Ok None
    else (spelled (commands version) w >>= checked_row n at values) >>= some_row

-- ---- the text

abbrev pub on_line : {A : Type 0} → ℕ → Result A ScriptKind → Result A Fault
on_line n (Ok x) = Ok x
on_line n (Err kind) = Err (fault kind n)

-- all rows, of those that came and of these lines, whose first has number n; or the first fault
unfoldable pub rows_of : ℕ → ℕ → List Row → List (List ℕ) → Result (List Row) Fault
rows_of version n before [] = Ok before
rows_of version n before (line ∷ rest) =
    on_line n (row_of_line version n (standing before) (words line)) >>= λ row.
    rows_of version (n + 1) (before ++ option_to_list row) rest

-- the version that the first line gives
unfoldable pub header : List Word → Result ℕ Fault
header words =
    if pointwise bytes_eq words (codes "octopus" ∷ codes "script" ∷ codes "1" ∷ []) then Ok 1
    else if pointwise bytes_eq words (codes "octopus" ∷ codes "script" ∷ codes "2" ∷ []) then Ok 2
    else Err (fault kinds.Header 1)

-- the script of all rows of a text with so many lines
abbrev pub script_of : ℕ → ℕ → List Row → Result ScriptView Fault
script_of version count rows =
    if list_any is_end rows
    then Ok (record { version = version; plans = plans [] rows; sessions = sessions rows })
    else Err (fault kinds.Truncated count)

abbrev pub behind_header : List (List ℕ) → ℕ → Result ScriptView Fault
behind_header rest version = rows_of version 2 [] rest >>= script_of version (length rest + 1)

abbrev pub script_of_lines : List (List ℕ) → Result ScriptView Fault
script_of_lines [] = Err (fault kinds.Truncated 0)
script_of_lines (first ∷ rest) = header (words first) >>= behind_header rest

-- the script that a text is, or its first fault
unfoldable pub script_text : List ℕ → Result ScriptView Fault
script_text text = script_of_lines (lines text)
