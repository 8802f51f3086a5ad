-- Where a seat stands, by its view.
use Rattle.std.proofs.Common.{◌≡◌, ℕ, zero, suc, true, false, List, [], ◌∷◌, All, sym, refl, ap, ◌∙◌, inl, inr, arith, Option, Some, None}
use Rattle.std.specs.Prelude.{unwrap_or, is_some}
use Rattle.std.proofs.lemmas.Bool.{true≢false}
use Rattle.atomic_table.specs.Seated.{TableId}
use Rattle.turn_table.specs.declared.kept.Kept.{Ghosts}
use Rattle.turn_table.specs.declared.seats.KeptSeat.{KeptSeat}
use Rattle.turn_table.specs.declared.seats.Turn.{Turn}
use Rattle.turn_table.specs.declared.view.View.{View}
use Rattle.turn_table.specs.declared.view.Stage.{Stage}
use Rattle.turn_table.specs.declared.view.Stage.TheVariants.{Idle, Waiting, Served}
use Rattle.turn_table.specs.Views.{Has, noted, is_served, is_waiting, staged, passed, told, showing, fresh, knowledge_of, Follows}
use Rattle.turn_table.specs.Shows.{IsLatest}
use Rattle.turn_table.specs.Seats.{some_value, turn_of, standing_at, standing, is_out, IsNew, IsBack, GoesOn}

pub some_value_is : {A : Type 0} (o : Option A) (e : is_some o ≡ true) → o ≡ Some (some_value o e)
some_value_is None e = absurd (true≢false (sym e))
some_value_is (Some a) e = refl

pub some_value_at : {A : Type 0} (o : Option A) (e : is_some o ≡ true) (a : A) → o ≡ Some a → some_value o e ≡ a
some_value_at None e a is = absurd (true≢false (sym e))
some_value_at (Some b) e a is = ap (λ q. unwrap_or q a) is

module _ {E : Type 0} where
  idle_of : (st : Stage E) → is_waiting st ≡ false → is_some (turn_of st) ≡ false → st ≡ Idle
  idle_of Idle w o = refl
  idle_of (Waiting t) w o = absurd (true≢false w)
  idle_of (Served t h) w o = absurd (true≢false o)

  served_by : (st : Stage E) (turn : Turn) → turn_of st ≡ Some turn → is_served st ≡ true
  served_by Idle turn e = cc
  served_by (Waiting t) turn e = cc
  served_by (Served t h) turn e = refl

pub all_says : (says : ℕ → Type 0) (l : List ℕ) → ((word : ℕ) → Has l word → says word) → All says l
all_says says [] each k d low = absurd (omega arith)
all_says says (x ∷ xs) each zero d low = each x (inl refl)
all_says says (x ∷ xs) each (suc k) d low = all_says says xs (λ word has. each word (inr has)) k d (omega arith)

module _ {T H E : Type 0} where
  abbrev pub view_of : KeptSeat T H E → View H E
  view_of s = s.seat.me.0

  -- the seat with this number, which has no ticket
  abbrev pub IsSeated : TableId → ℕ → KeptSeat T H E → Type 0
  IsSeated table n s = (s.seat.table_id ≡ table) × ((view_of s).number ≡ n) × ((view_of s).stage ≡ Idle)

  pub stands_new : (table : TableId) (theme : H) (n given : ℕ) (s : KeptSeat T H E) → s.seat.table_id ≡ table → view_of s ≡ fresh (Some theme) n given → IsNew table theme n s
  unfolding standing
  stands_new table theme n given s t e = λ i. standing_at (t i) (some_value_at (view_of s).theme s.live theme (ap (λ v. v.theme) e) i) (e i)

  pub table_is : (s : KeptSeat T H E) (table : TableId) → (standing s).table ≡ table → s.seat.table_id ≡ table
  unfolding standing
  table_is s table e = e

  pub theme_is : (s : KeptSeat T H E) (theme : H) → theme ≡ (standing s).theme → (view_of s).theme ≡ Some theme
  unfolding standing
  theme_is s theme e = some_value_is (view_of s).theme s.live ∙ ap Some (sym e)

  pub number_is : (s : KeptSeat T H E) → (view_of s).number ≡ (standing s).number
  unfolding standing
  number_is s = refl

  pub seen_is : (s : KeptSeat T H E) → (view_of s).seen ≡ (standing s).seen
  unfolding standing
  seen_is s = refl

  pub taken_is : (s : KeptSeat T H E) → noted (view_of s).stage ≡ (standing s).taken
  unfolding standing
  taken_is s = refl

  pub rests_is : (s : KeptSeat T H E) → is_out s ≡ false → (view_of s).stage ≡ Idle
  unfolding standing
  rests_is s e = idle_of (view_of s).stage s.settled e

  pub out_is : (s : KeptSeat T H E) (turn : Turn) → (standing s).out ≡ Some turn → is_served (view_of s).stage ≡ true
  unfolding standing
  out_is s turn e = served_by (view_of s).stage turn e

  -- what the step makes of the view is what becomes of the standing
  stands : (s s' : KeptSeat T H E) (v : View H E) → s'.seat.table_id ≡ s.seat.table_id → view_of s' ≡ v → v.theme ≡ (view_of s).theme → standing s' ≡ standing_at (standing s).table (standing s).theme v
  unfolding standing
  stands s s' v t e th = λ i. standing_at (t i) (some_value_at (view_of s').theme s'.live (standing s).theme (ap (λ u. u.theme) e ∙ th ∙ some_value_is (view_of s).theme s.live) i) (e i)

  pub stands_taken : (s s' : KeptSeat T H E) (t : ℕ) (h : List E) → s'.seat.table_id ≡ s.seat.table_id → view_of s' ≡ staged (view_of s) (Served t h)
      → standing s' ≡ record (standing s) { out = Some (record { ticket = t }); taken = h }
  unfolding standing
  stands_taken s s' t h table e = stands s s' (staged (view_of s) (Served t h)) table e refl

  pub stands_passed : (s s' : KeptSeat T H E) (h : List E) → s'.seat.table_id ≡ s.seat.table_id → view_of s' ≡ passed (view_of s) h
      → standing s' ≡ record (standing s) { seen = h; out = None; taken = [] }
  unfolding standing
  stands_passed s s' h table e = stands s s' (passed (view_of s) h) table e refl

  pub stands_showing : (s s' : KeptSeat T H E) (word : ℕ) → s'.seat.table_id ≡ s.seat.table_id → view_of s' ≡ showing (view_of s) word
      → standing s' ≡ record (standing s) { shown = word ∷ (standing s).shown }
  unfolding standing
  stands_showing s s' word table e = stands s s' (showing (view_of s) word) table e refl

  pub stands_told : (s s' : KeptSeat T H E) (word : ℕ) → s'.seat.table_id ≡ s.seat.table_id → view_of s' ≡ told (view_of s) word
      → standing s' ≡ record (standing s) { known = word ∷ (standing s).known }
  unfolding standing
  stands_told s s' word table e = stands s s' (told (view_of s) word) table e refl

  pub seated_back : (table : TableId) (n : ℕ) (s : KeptSeat T H E) → IsBack table n s → IsSeated table n s
  seated_back table n s back = (table_is s table back.0, number_is s ∙ back.1, rests_is s back.2)

  pub follows_on : (g : Ghosts T H E) (s : KeptSeat T H E) (value : T) → Follows g (knowledge_of (view_of s)) value → GoesOn g (standing s) value
  unfolding standing
  follows_on g s value f = record {
    theme = sym (some_value_at (view_of s).theme s.live (g.theme value) f.0);
    begins = f.1.0;
    own = f.1.1;
    known = all_says (g.says (g.history value)) (view_of s).known f.2;
  }

  pub latest_is : (s : KeptSeat T H E) (word : ℕ) → IsLatest (view_of s).number (view_of s).shown word → IsLatest (standing s).number (standing s).shown word
  unfolding standing
  latest_is s word e = e
