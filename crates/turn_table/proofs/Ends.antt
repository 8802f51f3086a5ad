-- The rule holds of a new table, and what it says of a closed one.
use Rattle.std.proofs.Common.{◌≡◌, ℕ, zero, suc, ◌<◌, true, List, [], ◌∷◌, sym, refl, ap, ◌∙◌, subst, ⊎_elim, arith, Option, Some}
use Rattle.std.specs.Prelude.{is_some}
use mathlib.Core.Option.{some, some-injective, some-ne-none}
use lib.ListN.{get_elem?}
use Rattle.atomic_table.specs.Table.{State, opening, Final, Seen}
use Rattle.turn_table.specs.declared.kept.Kept.{Ghosts}
use Rattle.turn_table.specs.declared.view.View.{View}
use Rattle.turn_table.specs.declared.view.Stage.TheVariants.{Idle}
use Rattle.turn_table.specs.Views.{own_of, Extends, is_served, fresh}
use Rattle.turn_table.specs.Rule.{Knows, InTurn}
use Rattle.turn_table.specs.Plays.{HasAll, Settles}
use Rattle.turn_table.proofs.Basics.{some_of}
use Rattle.turn_table.proofs.Views.{finds_home}

module _ {T H E : Type 0} (g : Ghosts T H E) (seats : ℕ) where
  abbrev V : Type 0
  V = View H E

  abbrev St : Type 0
  St = State (Option T) V

  abbrev Rule : St → Type 0
  Rule = InTurn g seats

  abbrev opener : H → V
  opener theme = fresh (Some theme) 0 1

  abbrev AtFirst : H → ℕ → V → Type 0
  AtFirst theme = Knows g theme [] [] 1 (λ _. 0) 0 (λ _. 0)

  one_view : (theme : H) (j : ℕ) (v : V) (t : H) → get_elem? (opener theme ∷ []) j ≡ some v → v.theme ≡ Some t → AtFirst theme j v
  one_view theme zero v t e th = subst (AtFirst theme 0) (some-injective (opener theme) v e) (record {
    own = record { theme_is = refl; below = omega arith; at = refl; more = (([], refl), refl); known = λ word has. absurd has };
    others = λ q has. absurd has;
    placed = tt;
    shown = refl;
    first = λ _. refl;
  })
  one_view theme (suc j) v t e th = absurd (some-ne-none v (sym e))

  pub opens : (value : T) (theme : H) → g.theme value ≡ theme → g.history value ≡ [] → g.fits (g.theme value) (g.history value) → 0 < seats
      → Rule (opening (0 ∷ 0 ∷ 0 ∷ []) (Some value ∷ []) (opener theme))
  opens value theme is empty fit some_seat = let fit' : g.fits theme [] = subst (λ (z : H × List E). g.fits z.0 z.1) (λ i. (is i, empty i)) fit in record {
    theme = theme;
    history = [];
    shows = [];
    ticket = 0;
    count = 1;
    owner = λ _. 0;
    holder = λ _. 0;
    wide = refl;
    deep = refl;
    next = refl;
    serving = refl;
    latest = refl;
    shown = g.says_nothing theme [] fit';
    in_order = omega arith;
    small = omega arith;
    few = omega arith;
    allowed = fit';
    made = λ n far. refl;
    unshown = λ n far. refl;
    home = λ _. (value, refl, is, empty);
    each_view = one_view theme;
    held = λ q low high. absurd (omega arith);
  }

  pub ends : (words : List ℕ) (homes : List (Option T)) (id : ℕ) (v : V) (h : H) → v.theme ≡ Some h → v.stage ≡ Idle → HasAll seats v → Final (Seen Rule id v) words homes
      → (value : T) × (get_elem? homes 0 ≡ some (Some value)) × Settles g seats v value
  ends words homes id v h live idle all (s, (r, at), is_words, long, there) = let k = r.each_view id v h at live in let few = r.few in
      let alone : (j : ℕ) (u : V) (t : H) → get_elem? s.views j ≡ some u → u.theme ≡ Some t → j ≡ id = λ j u t e th. let o = (r.each_view j u t e th).own in let b = o.below in
      ⊎_elim (λ (same : u.number ≡ v.number). sym o.at ∙ (ap r.holder same ∙ k.own.at))
      (λ p. sym o.at ∙ (ap r.holder (sym p.1) ∙ (k.others p.0 p.2).at)) (all u.number (omega arith)) in
      let home = r.home (λ j u t e th. let is : v ≡ u = some-injective v u (sym at ∙ ap (get_elem? s.views) (sym (alone j u t e th)) ∙ e) in ap (λ (x : V). is_served x.stage) (sym is) ∙ ap is_served idle) in
      let value : T = home.0 in let found : g.history value ≡ r.history = home.3 in (
        value,
        there 0 (Some value) home.1,
        (
          finds_home g v r.theme r.history r.count r.holder id value r.allowed k.own home.2 found,
          (λ p has. let o = k.others p has in (o.theme_is ∙ ap Some (sym home.2), subst (Extends g.maker p.number p.seen) (sym found) o.more, λ word has'. subst (λ l. g.says l word) (sym found) (o.known word has'))),
          (λ n far. subst (λ l. own_of g.maker n l ≡ []) (sym found) (r.made n (omega arith))),
        ),
      )

  -- the value that comes out of the slot
  pub comes_out : (words : List ℕ) (homes : List (Option T)) (id : ℕ) (v : V) (o : Option T) → is_some v.theme ≡ true → v.stage ≡ Idle → HasAll seats v → Final (Seen Rule id v) words homes → get_elem? homes 0 ≡ some o
      → (value : T) × (o ≡ Some value) × Settles g seats v value
  comes_out words homes id v o live idle all last there = let h = some_of v.theme live in let t = ends words homes id v h.0 h.1 idle all last in (t.0, some-injective o (Some t.0) (sym there ∙ t.1), t.2)
