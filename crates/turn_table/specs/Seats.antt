-- What a clause says of seats.
use Rattle.std.specs.Prelude.{◌≡◌, ℕ, ◌<◌, Bool, true, false, List, [], All, length, slice_index_or, Option, Some, None, is_some}
use Rattle.std.proofs.Common.{sym}
use Rattle.std.proofs.lemmas.Bool.{true≢false}
use Rattle.atomic_table.specs.Seated.{TableId}
use Rattle.turn_table.specs.declared.kept.Kept.{Ghosts}
use Rattle.turn_table.specs.declared.seats.KeptSeat.{KeptSeat}
use Rattle.turn_table.specs.declared.seats.Turn.{Turn}
use Rattle.turn_table.specs.declared.turns.Turns.{Turns}
use Rattle.turn_table.specs.declared.view.View.{View}
use Rattle.turn_table.specs.declared.view.Stage.{Stage}
use Rattle.turn_table.specs.declared.view.Stage.TheVariants.{Idle, Waiting, Served}
use Rattle.turn_table.specs.Views.{Begins, own_of, noted}

-- the value of an option that has one
abbrev pub some_value : {A : Type 0} (o : Option A) → is_some o ≡ true → A
some_value None e = absurd (true≢false (sym e))
some_value (Some a) e = a

-- the turn that is out with a seat
abbrev pub turn_of : {E : Type 0} → Stage E → Option Turn
turn_of Idle = None
turn_of (Waiting t) = None
turn_of (Served t history) = Some record { ticket = t }

-- what contracts see of a seat
pub record Standing (H E : Type 0) : Type 0 where
  -- the lock that it is of
  pub table : TableId
  pub number : ℕ
  pub theme : H
  -- the longest history that it has seen
  pub seen : List E
  -- the words that it met, each true of every history from then on, and the words that it showed, the newest first
  pub known : List ℕ
  pub shown : List ℕ
  -- the turn that is out with it, and the history of the value that it took then
  pub out : Option Turn
  pub taken : List E

abbrev pub standing_at : {H E : Type 0} → TableId → H → View H E → Standing H E
standing_at table theme v = record {
  table = table;
  number = v.number;
  theme = theme;
  seen = v.seen;
  known = v.known;
  shown = v.shown;
  out = turn_of v.stage;
  taken = noted v.stage;
}

module _ {T H E : Type 0} where
  -- where the seat stands
  unfoldable pub standing : KeptSeat T H E → Standing H E
  standing s = standing_at s.seat.table_id (some_value s.seat.me.0.theme s.live) s.seat.me.0

  -- its turn is out
  abbrev pub is_out : KeptSeat T H E → Bool
  is_out s = is_some (standing s).out

  -- which lock it is
  abbrev pub table_of : Turns T H E → TableId
  table_of t = t.table.shared.table_id

  -- P of each seat and its place
  abbrev pub EachSeat : (ℕ → KeptSeat T H E → Type 0) → List (KeptSeat T H E) → Type 0
  EachSeat P seats = (k : ℕ) (d : KeptSeat T H E) → k < length seats → P k (slice_index_or seats k d)

  -- the seat with this number has seen nothing, met no word and shown none, and its turn is not out
  abbrev pub IsNew : TableId → H → ℕ → KeptSeat T H E → Type 0
  IsNew table theme n s = standing s ≡ record {
    table = table;
    number = n;
    theme = theme;
    seen = [];
    known = [];
    shown = [];
    out = None;
    taken = [];
  }

  -- the seat with this number, whose turn is not out
  abbrev pub IsBack : TableId → ℕ → KeptSeat T H E → Type 0
  IsBack table n s = ((standing s).table ≡ table) × ((standing s).number ≡ n) × (is_out s ≡ false)

module _ {T H E : Type 0} (g : Ghosts T H E) where
  -- the entries that the seat made
  abbrev pub own_entries : Standing H E → List E
  own_entries s = own_of g.maker s.number s.seen

  -- the value goes on from where the seat stands
  pub record GoesOn (s : Standing H E) (value : T) : Type 0 where
    pub theme : g.theme value ≡ s.theme
    pub begins : Begins s.seen (g.history value)
    -- the seat's own entries are all that the history has of its number
    pub own : own_of g.maker s.number (g.history value) ≡ own_entries s
    pub known : All (g.says (g.history value)) s.known
