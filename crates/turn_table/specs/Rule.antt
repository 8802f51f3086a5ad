-- The rule of the lock. Word 0 is the next ticket, word 1 the ticket that is served, word 2 the shown word. Slot 0 has
-- the value.
use Rattle.std.specs.Prelude.{◌≡◌, ℕ, ◌<◌, ◌≤◌, true, false, List, [], length, slice_index, Option, Some, is_some}
use mathlib.Core.Option.{some}
use mathlib.Core.Option as maybe
use lib.ListN.{get_elem?}
use Rattle.atomic_table.specs.Table.{State}
use Rattle.turn_table.specs.declared.kept.Kept.{Ghosts}
use Rattle.turn_table.specs.declared.view.View.{View}
use Rattle.turn_table.specs.declared.view.Knowledge.{Knowledge}
use Rattle.turn_table.specs.declared.view.Stage.{Stage}
use Rattle.turn_table.specs.declared.view.Stage.TheVariants.{Idle, Waiting, Served}
use Rattle.turn_table.specs.Views.{Has, own_of, Extends, is_served, knowledge_of}
use Rattle.turn_table.specs.Shows.{Shown, latest_of, shown_by}

-- Each ticket has one owner, which waits for it or is served
module _ {E : Type 0} (history : List E) (ticket : ℕ) (owner : ℕ → ℕ) (seat : ℕ) where
  abbrev pub Placed : Stage E → Type 0
  Placed Idle = Unit {0}
  Placed (Waiting t) = (owner t ≡ seat) × (length history ≤ t) × (t < ticket)
  Placed (Served t noted) = (owner t ≡ seat) × (t ≡ length history) × (t < ticket) × (noted ≡ history)

-- the ticket t is this seat's
abbrev pub HasTicket : {E : Type 0} → ℕ → Stage E → Type 0
HasTicket t Idle = ⊥
HasTicket t (Waiting u) = u ≡ t
HasTicket t (Served u noted) = u ≡ t

-- the ticket t is that of the seat j, which was not taken in
abbrev pub IsHeld : {H E : Type 0} → List (View H E) → ℕ → ℕ → Type 0
IsHeld {H} {E} views t j = (v : View H E) × (get_elem? views j ≡ some v) × (is_some v.theme ≡ true)
    × HasTicket t v.stage

module _ {T H E : Type 0} (g : Ghosts T H E) where
  -- this seat has the number, and the history is what it had seen under that number and then others' entries
  pub record Holds (theme : H) (history : List E) (count : ℕ) (holder : ℕ → ℕ) (seat : ℕ)
      (p : Knowledge H E) : Type 0 where
    pub theme_is : p.theme ≡ Some theme
    pub below : p.number < count
    pub at : holder p.number ≡ seat
    pub more : Extends g.maker p.number p.seen history
    pub known : (word : ℕ) → Has p.known word → g.says history word

  pub record Knows (theme : H) (history : List E) (shows : List Shown) (count : ℕ) (holder : ℕ → ℕ) (ticket : ℕ)
      (owner : ℕ → ℕ) (seat : ℕ) (v : View H E) : Type 0 where
    pub own : Holds theme history count holder seat (knowledge_of v)
    pub others : (p : Knowledge H E) → Has v.others p → Holds theme history count holder seat p
    pub placed : Placed history ticket owner seat v.stage
    pub shown : shown_by v.number shows ≡ v.shown
    pub first : v.number ≡ 0 → v.given ≡ count

  -- the value is at home, with this theme and history
  abbrev pub AtHome : List (maybe.Option (Option T)) → H → List E → Type 0
  AtHome homes theme history = (value : T) × (get_elem? homes 0 ≡ some (some (Some value))) × (g.theme value ≡ theme)
      × (g.history value ≡ history)

-- no seat is served, of those that were not taken in
abbrev pub AreUnserved : {H E : Type 0} → List (View H E) → Type 0
AreUnserved {H} {E} views = (j : ℕ) (v : View H E) (t : H) → get_elem? views j ≡ some v → v.theme ≡ Some t
    → is_served v.stage ≡ false

module _ {T H E : Type 0} (g : Ghosts T H E) where
  pub record InTurn (seats : ℕ) (s : State (Option T) (View H E)) : Type 0 where
    pub theme : H
    -- all entries so far
    pub history : List E
    pub shows : List Shown
    pub ticket : ℕ
    -- how many numbers were given out
    pub count : ℕ
    -- which seat a ticket, and a number, is of
    pub owner : ℕ → ℕ
    pub holder : ℕ → ℕ
    pub wide : length s.words ≡ 3
    pub deep : length s.homes ≡ 1
    pub next : slice_index s.words 0 ≡ ticket
    pub serving : slice_index s.words 1 ≡ length history
    pub latest : slice_index s.words 2 ≡ latest_of shows
    pub shown : g.says history (slice_index s.words 2)
    pub in_order : length history ≤ ticket
    pub small : ticket < 18446744073709551616
    pub few : count ≤ seats
    pub allowed : g.fits theme history
    pub made : (n : ℕ) → count ≤ n → own_of g.maker n history ≡ []
    pub unshown : (n : ℕ) → count ≤ n → shown_by n shows ≡ []
    pub home : AreUnserved s.views → AtHome g s.homes theme history
    pub each_view : (j : ℕ) (v : View H E) (t : H) → get_elem? s.views j ≡ some v → v.theme ≡ Some t
        → Knows g theme history shows count holder ticket owner j v
    pub held : (t : ℕ) → length history ≤ t → t < ticket → IsHeld s.views t (owner t)
