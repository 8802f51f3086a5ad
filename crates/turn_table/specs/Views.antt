-- What a seat knows, as plain data, and how a step changes it.
use Rattle.std.specs.Prelude.{◌≡◌, ◌⊎◌, ℕ, ◌+◌, ◌==◌, Bool, true, false, List, [], ◌∷◌, ◌++◌, filter, Option, Some, None}
use Rattle.turn_table.specs.declared.kept.Kept.{Ghosts}
use Rattle.turn_table.specs.declared.view.View.{View}
use Rattle.turn_table.specs.declared.view.Knowledge.{Knowledge}
use Rattle.turn_table.specs.declared.view.Stage.{Stage}
use Rattle.turn_table.specs.declared.view.Stage.TheVariants.{Idle, Waiting, Served}

-- x is in the list
abbrev pub Has : {X : Type 0} → List X → X → Type 0
Has [] x = ⊥
Has (y ∷ ys) x = (y ≡ x) ⊎ Has ys x

abbrev pub first_of_pair : {A B : Type 0} → A × B → A
first_of_pair p = p.0

module _ {E : Type 0} where
  -- the history begins with what was seen
  abbrev pub Begins : List E → List E → Type 0
  Begins seen history = (rest : List E) × (seen ++ rest ≡ history)

  -- the entries that the seat n made
  abbrev pub own_of : (E → ℕ) → ℕ → List E → List E
  own_of maker n history = filter (λ e. maker e == n) history

  -- the history begins with what the seat n had seen, and has no entry of its own beyond that
  abbrev pub Extends : (E → ℕ) → ℕ → List E → List E → Type 0
  Extends maker n seen history = Begins seen history × (own_of maker n history ≡ own_of maker n seen)

  -- the history that a served seat found
  abbrev pub noted : Stage E → List E
  noted Idle = []
  noted (Waiting t) = []
  noted (Served t history) = history

  -- the slots that a seat holds
  abbrev pub slots_of : Stage E → List ℕ
  slots_of Idle = []
  slots_of (Waiting t) = []
  slots_of (Served t history) = 0 ∷ []

  abbrev pub ticket_of : Stage E → ℕ
  ticket_of Idle = 0
  ticket_of (Waiting t) = t
  ticket_of (Served t history) = t

  abbrev pub is_served : Stage E → Bool
  is_served Idle = false
  is_served (Waiting t) = false
  is_served (Served t history) = true

  abbrev pub is_waiting : Stage E → Bool
  is_waiting Idle = false
  is_waiting (Waiting t) = true
  is_waiting (Served t history) = false

module _ {H E : Type 0} where
  abbrev pub staged : View H E → Stage E → View H E
  staged v stage = record v { stage = stage }

  -- after the turn, which left this history
  abbrev pub passed : View H E → List E → View H E
  passed v history = record v { seen = history; stage = Idle }

  -- the word was loaded
  abbrev pub told : View H E → ℕ → View H E
  told v word = record v { known = word ∷ v.known }

  -- the word was stored
  abbrev pub showing : View H E → ℕ → View H E
  showing v word = record v { shown = word ∷ v.shown }

  -- a seat with this number, which has seen nothing, and has given out this many numbers
  abbrev pub fresh : Option H → ℕ → ℕ → View H E
  fresh theme number given = record {
    theme = theme;
    number = number;
    seen = [];
    known = [];
    shown = [];
    stage = Idle;
    given = given;
    others = [];
  }

  -- one more number is given out, and who gets it
  abbrev pub dealt : View H E → View H E
  dealt v = record v { given = v.given + 1 }

  abbrev pub newcomer : View H E → View H E
  newcomer v = fresh v.theme v.given 0

  abbrev pub knowledge_of : View H E → Knowledge H E
  knowledge_of v = record { theme = v.theme; number = v.number; seen = v.seen; known = v.known }

  abbrev pub joined : View H E → View H E → View H E
  joined v w = record v { others = knowledge_of w ∷ v.others }

  abbrev pub spent : View H E
  spent = fresh None 0 0

-- the value has the theme of what was known, a history that begins with what was seen and has no further entry of that
-- number, and each known word is true of it
module _ {T H E : Type 0} (g : Ghosts T H E) where
  abbrev pub Follows : Knowledge H E → T → Type 0
  Follows p value = (p.theme ≡ Some (g.theme value)) × Extends g.maker p.number p.seen (g.history value)
      × ((word : ℕ) → Has p.known word → g.says (g.history value) word)

  abbrev pub Finds : View H E → T → Type 0
  Finds v value = g.fits (g.theme value) (g.history value) × Follows (knowledge_of v) value
