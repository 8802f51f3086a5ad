-- What a step of one seat leaves of the facts about all views.
use Rattle.std.proofs.Common.{◌≡◌, ℕ, true, ◌≢◌, List, ◌++◌, get_or, set, sym, ap, ◌∙◌, subst, ⊎_elim, Option, Some}
use mathlib.Core.Logic.{dite}
use Rattle.std.specs.Prelude.{is_some}
use mathlib.Core.Option.{some, some-injective}
use native.Mathlib.Decide.{ℕ_discrete}
use lib.ListN.{get_elem?}
use lib.Seq.{set-get_or}
use Rattle.atomic_table.specs.Table.{State, keeps, stepped}
use Rattle.atomic_table.proofs.Lists.{at_longer, at_set, set_again, set_here, set_else}
use Rattle.turn_table.specs.declared.kept.Kept.{Ghosts}
use Rattle.turn_table.specs.declared.view.View.{View}
use Rattle.turn_table.specs.declared.view.Stage.TheVariants.{Idle}
use Rattle.turn_table.specs.Views.{Extends, Finds, is_served, knowledge_of}
use Rattle.turn_table.specs.Rule.{HasTicket, IsHeld, Holds, AreUnserved, InTurn}
use Rattle.turn_table.proofs.Basics.{at_below}

module _ {H E : Type 0} where
  -- what holds of each view holds after the seat `id` has another one
  pub views_set : (K : ℕ → View H E → Type 0) (vs : List (View H E)) (id : ℕ) (w : View H E) → ((t : H) → w.theme ≡ Some t → K id w)
      → ((j : ℕ) (v : View H E) (t : H) → j ≢ id → get_elem? vs j ≡ some v → v.theme ≡ Some t → K j v)
      → (j : ℕ) (v : View H E) (t : H) → get_elem? (set vs id w) j ≡ some v → v.theme ≡ Some t → K j v
  views_set K vs id w here else j v t e th = ⊎_elim (λ p. subst (λ (u : View H E). (u.theme ≡ Some t) → K j u) p.1 (λ h. subst (λ (i : ℕ). K i w) (sym p.0) (here t h)) th) (λ p. else j v t p.0 p.1 th) (at_set vs id j w v e)

  -- where no seat is served after a step, none was before
  pub unserved : (vs : List (View H E)) (id : ℕ) (v w : View H E) → get_elem? vs id ≡ some v → w.theme ≡ v.theme → is_served w.stage ≡ is_served v.stage → AreUnserved (set vs id w) → AreUnserved vs
  unserved vs id v w at th st free j u t e live = dite (ℕ_discrete j id)
      (λ same. let is : u ≡ v = some-injective u v (sym e ∙ ap (get_elem? vs) same ∙ at) in
      ap (λ (x : View H E). is_served x.stage) is ∙ sym st ∙ free id w t (set_here vs id w (at_below vs id v at)) (th ∙ ap (λ (x : View H E). x.theme) (sym is) ∙ live))
      (λ ne. free j u t (set_else vs id j w ne ∙ e) live)

  -- a held ticket stays held where its seat keeps it
  pub held_set : (vs : List (View H E)) (id : ℕ) (v w : View H E) (t j : ℕ) → get_elem? vs id ≡ some v → w.theme ≡ v.theme → (HasTicket t v.stage → HasTicket t w.stage) → IsHeld vs t j → IsHeld (set vs id w) t j
  held_set vs id v w t j at th has (u, e, live, mine) = dite (ℕ_discrete j id)
      (λ same. let is : u ≡ v = some-injective u v (sym e ∙ ap (get_elem? vs) same ∙ at) in
      (w, ap (get_elem? (set vs id w)) same ∙ set_here vs id w (at_below vs id v at), ap is_some th ∙ subst (λ (x : View H E). is_some x.theme ≡ true) is live, has (subst (λ (x : View H E). HasTicket t x.stage) is mine)))
      (λ ne. (u, set_else vs id j w ne ∙ e, live, mine))

  pub held_longer : (vs ws : List (View H E)) (t j : ℕ) → IsHeld vs t j → IsHeld (vs ++ ws) t j
  held_longer vs ws t j (u, e, live, mine) = (u, at_longer vs ws j u e, live, mine)

  -- a seat without a ticket may go
  pub held_without : (vs : List (View H E)) (id : ℕ) (v w : View H E) (t j : ℕ) → get_elem? vs id ≡ some v → v.stage ≡ Idle → IsHeld vs t j → IsHeld (set vs id w) t j
  held_without vs id v w t j at idle (u, e, live, mine) = dite (ℕ_discrete j id)
      (λ same. let is : u ≡ v = some-injective u v (sym e ∙ ap (get_elem? vs) same ∙ at) in absurd (subst (HasTicket t) idle (subst (λ (x : View H E). HasTicket t x.stage) is mine)))
      (λ ne. (u, set_else vs id j w ne ∙ e, live, mine))

module _ {T H E : Type 0} (g : Ghosts T H E) where
  -- what is known of the rule's history is known of the value's
  pub finds_home : (v : View H E) (theme : H) (history : List E) (count : ℕ) (holder : ℕ → ℕ) (seat : ℕ) (value : T) → g.fits theme history → Holds g theme history count holder seat (knowledge_of v) → g.theme value ≡ theme → g.history value ≡ history
      → Finds g v value
  finds_home v theme history count holder seat value fit k th is = (
    subst (λ (z : H × List E). g.fits z.0 z.1) (λ i. (sym th i, sym is i)) fit,
    (k.theme_is ∙ ap Some (sym th), subst (Extends g.maker v.number v.seen) (sym is) k.more, λ word has. subst (λ l. g.says l word) (sym is) (k.known word has)),
  )

module _ {T H E : Type 0} (g : Ghosts T H E) (seats : ℕ) where
  -- a step that changes nothing
  pub stays : (s : State (Option T) (View H E)) (r : InTurn g seats s) (i id : ℕ) (c : List (ℕ × Option T)) (v : View H E) → get_elem? s.views id ≡ some v → InTurn g seats (stepped s i (get_or s.words i 0) id c v keeps)
  stays s r i id c v at = subst (InTurn g seats) (λ k. record { words = sym (set-get_or s.words i 0) k; homes = s.homes; views = sym (set_again s.views id v at) k }) r
