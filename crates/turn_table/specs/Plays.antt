-- What each step tells: of the step, the seat before, the number found and the seat after.
use Rattle.std.specs.Prelude.{◌≡◌, ◌≢◌, ◌⊎◌, ℕ, ◌<◌, ◌≤◌, [], ◌∷◌, Option, Some}
use Rattle.atomic_table.specs.Table.{Me, Step}
use Rattle.turn_table.specs.declared.kept.Kept.{Ghosts}
use Rattle.turn_table.specs.declared.view.View.{View}
use Rattle.turn_table.specs.declared.view.Knowledge.{Knowledge}
use Rattle.turn_table.specs.declared.view.Stage.TheVariants.{Waiting, Served}
use Rattle.turn_table.specs.Views.{Has, own_of, Follows, Finds, ticket_of, staged, passed, told, showing}
use Rattle.turn_table.specs.Shows.{IsLatest}

abbrev Sat : Type 0 → Type 0 → Type 0 → Type 0
Sat T H E = Me (Option T) (View H E)

module _ {T H E : Type 0} where
  -- a ticket is drawn where the word was as expected
  abbrev pub drawn : Step (Option T) → Sat T H E → ℕ → Sat T H E → Type 0
  drawn st m r n = (r ≡ st.first → n ≡ (staged m.0 (Waiting r), m.1)) × (r ≢ st.first → n ≡ m)

  -- the seat showed the word that was stored
  abbrev pub showed : Step (Option T) → Sat T H E → ℕ → Sat T H E → Type 0
  showed st m r n = n ≡ (showing m.0 r, m.1)

  -- the seat knows the word that it loaded, which was shown last
  abbrev pub peeked : Step (Option T) → Sat T H E → ℕ → Sat T H E → Type 0
  peeked st m r n = (n ≡ (told m.0 r, m.1)) × IsLatest m.0.number m.0.shown r

module _ {T H E : Type 0} (g : Ghosts T H E) where
  -- the seat is served where its own ticket is
  abbrev pub looked : Step (Option T) → Sat T H E → ℕ → Sat T H E → Type 0
  looked st m r n =
      (r ≡ ticket_of m.0.stage → (value : T) × (n ≡ (staged m.0 (Served r (g.history value)), (0, Some value) ∷ m.1))
      × Finds g m.0 value) × (r ≢ ticket_of m.0.stage → n ≡ m)

  -- the turn ends, and the slot goes home
  abbrev pub gave : Step (Option T) → Sat T H E → ℕ → Sat T H E → Type 0
  gave st m r n = (value : T) → m.1 ≡ (0, Some value) ∷ [] → n ≡ (passed m.0 (g.history value), [])

-- the seat has the numbers below n, its own and those of the seats that it took in
abbrev pub HasAll : {H E : Type 0} → ℕ → View H E → Type 0
HasAll {H} {E} n v = (k : ℕ) → k < n → (k ≡ v.number) ⊎ ((p : Knowledge H E) × (p.number ≡ k) × Has v.others p)

module _ {T H E : Type 0} (g : Ghosts T H E) where
  -- the value follows what the seat, and each one that it took in, had seen, and no number from n on made an entry
  abbrev pub Settles : ℕ → View H E → T → Type 0
  Settles n v value = Finds g v value × ((p : Knowledge H E) → Has v.others p → Follows g p value)
      × ((k : ℕ) → n ≤ k → own_of g.maker k (g.history value) ≡ [])
