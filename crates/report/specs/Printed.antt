-- The history that the journal lines of a text print.
use Rattle.std.specs.Prelude.{ℕ, ◌-◌, ◌^◌, ◌==◌, Bool, true, if◌then◌else◌, List, [], ◌∷◌, take, codes, Option, Some, None}
use Rattle.std.specs.List.{slice_split}
use Rattle.std.specs.Result.{result_ok}
use Rattle.std.specs.Str.{bytes_eq}
use Rattle.oct_text.specs.Numbers.{count_of}
use Rattle.step_registry.specs.declared.event.Event.{Event}
use Rattle.step_registry.specs.declared.event.Event.TheVariants.{Publish, Pin, Unpin, Close}

abbrev pub is_lf : ℕ → Bool
is_lf b = b == 10

abbrev pub is_space : ℕ → Bool
is_space b = b == 32

-- the pieces of a text between its line feeds, and those of a line between its spaces
abbrev pub lines_of : List ℕ → List (List ℕ)
lines_of text = slice_split is_lf text

abbrev pub words_of : List ℕ → List (List ℕ)
words_of words = slice_split is_space words

abbrev pub number_of : List ℕ → Option ℕ
number_of word = result_ok (count_of word (2 ^ 32 - 1))

abbrev pub with_one : (ℕ → Event) → Option ℕ → Option Event
with_one f (Some k) = Some (f k)
with_one f None = None

abbrev pub with_two : (ℕ → ℕ → Event) → Option ℕ → Option ℕ → Option Event
with_two f (Some s) (Some k) = Some (f s k)
with_two f (Some s) None = None
with_two f None k = None

abbrev pub answered : ℕ → ℕ → Event
answered s k = Unpin s k true

-- The event of a line's words. An `unpin` stands for an answered one.
abbrev pub event_of : List (List ℕ) → Option Event
event_of (w ∷ []) = if bytes_eq w (codes "close") then Some Close else None
event_of (w ∷ a ∷ []) = if bytes_eq w (codes "publish") then with_one Publish (number_of a) else None
event_of (w ∷ a ∷ b ∷ []) =
    if bytes_eq w (codes "pin") then with_two Pin (number_of a) (number_of b)
    else if bytes_eq w (codes "unpin") then with_two answered (number_of a) (number_of b)
    else None
event_of _ = None

abbrev pub with_event : Option Event → Option (List Event) → Option (List Event)
with_event (Some e) (Some es) = Some (e ∷ es)
with_event (Some e) None = None
with_event None es = None

-- the events of the lines up to the line `end`
abbrev pub events_of : List (List ℕ) → Option (List Event)
events_of [] = None
events_of (l ∷ ls) = if bytes_eq l (codes "end") then Some [] else with_event (event_of (words_of l)) (events_of ls)

abbrev pub is_journal : List ℕ → Bool
is_journal l = bytes_eq (take 8 l) (codes "journal ")

-- the lines behind the first that begins with `journal `
abbrev pub behind_journal : List (List ℕ) → List (List ℕ)
behind_journal [] = []
behind_journal (l ∷ ls) = if is_journal l then ls else behind_journal ls

-- the history that a text prints, if its journal lines are those of events
unfoldable pub printed_journal : List ℕ → Option (List Event)
printed_journal text = events_of (behind_journal (lines_of text))
