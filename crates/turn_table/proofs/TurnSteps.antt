-- The steps of one turn keep the rule: a ticket is drawn, a seat looks whether it is served, and the turn ends.
use Rattle.std.proofs.Common.{◌≡◌, ℕ, ◌+◌, ◌%◌, ◌<◌, eqb, cond, false, ◌≢◌, List, [], ◌∷◌, ◌++◌, length, get_or, set, sym, refl, ap, ◌∙◌, subst, arith, Option, Some, length-set, append_assoc, length-append, get_or-set_other, get_or-set_same, eq-eqb, ne_eqb}
use mathlib.Core.Logic.{dite}
use Rattle.std.specs.Prelude.{unwrap_or, is_some}
use mathlib.Core.Option.{none, some, some-injective}
use native.Mathlib.Decide.{ℕ_discrete}
use lib.ListN.{get_elem?}
use lib.Seq.{set-get_or}
use prog.Atomic.{either}
use Rattle.std.proofs.lemmas.List.{append-nil}
use Rattle.std.proofs.lemmas.List.Elements.{filter-append}
use Rattle.std.proofs.lemmas.Bool.{true≢false}
use Rattle.atomic_table.specs.Table.{State, Me, step, keeps, takes, gives, stepped, Allows}
use Rattle.atomic_table.proofs.Lists.{set_here}
use Rattle.turn_table.specs.declared.kept.Kept.{Ghosts}
use Rattle.turn_table.specs.declared.view.View.{View}
use Rattle.turn_table.specs.declared.view.Knowledge.{Knowledge}
use Rattle.turn_table.specs.declared.view.Stage.{Stage}
use Rattle.turn_table.specs.declared.view.Stage.TheVariants.{Idle, Waiting, Served}
use Rattle.turn_table.specs.Views.{noted, Has, own_of, ticket_of, is_served, staged, passed, knowledge_of}
use Rattle.turn_table.specs.Rule.{Placed, HasTicket, IsHeld, Holds, Knows, AreUnserved, InTurn}
use Rattle.turn_table.specs.Plays.{drawn, looked, gave}
use Rattle.turn_table.proofs.Basics.{assign, assign_here, assign_else, at_below}
use Rattle.turn_table.proofs.Views.{views_set, unserved, held_set, finds_home, stays}

module _ {T H E : Type 0} (g : Ghosts T H E) (seats : ℕ) where
  abbrev V : Type 0
  V = View H E

  abbrev St : Type 0
  St = State (Option T) V

  abbrev M : Type 0
  M = Me (Option T) V

  abbrev Rule : St → Type 0
  Rule = InTurn g seats

  placed_drawn : (history : List E) (x id : ℕ) (owner : ℕ → ℕ) (j : ℕ) (st : Stage E) → Placed history x owner j st → Placed history (x + 1) (assign owner x id) j st
  placed_drawn history x id owner j Idle p = tt
  placed_drawn history x id owner j (Waiting t) p = let lt = p.2 in (assign_else owner x id t (λ e. omega arith) ∙ p.0, p.1, omega arith)
  placed_drawn history x id owner j (Served t noted) p = let lt = p.2 in (assign_else owner x id t (λ e. omega arith) ∙ p.0, p.1, omega arith, p.3)

  pub draws : (slots id : ℕ) (me : M) (h : H) (old : ℕ) → me.0.theme ≡ Some h → me.0.stage ≡ Idle → old < 18446744073709551615
      → Allows Rule slots id me 0 (λ n. either (eqb n old) (old + 1) n) (drawn (step slots 0 old (old + 1) none) me)
  draws slots id me h old live idle low s r _ at _ = let x : ℕ = get_or s.words 0 0 in let v : V = me.0 in let n : x ≡ r.ticket = r.next in let o = r.in_order in let wide = r.wide in dite (ℕ_discrete x old)
      (λ hit. let w : V = staged v (Waiting x) in let k = r.each_view id v h at live in let ws : List ℕ = set s.words 0 (old + 1) in (
        w,
        keeps,
        tt,
        subst (λ b. Rule (stepped s 0 (either b (old + 1) x) id me.1 w keeps)) (sym (eq-eqb x old hit)) (record {
          theme = r.theme;
          history = r.history;
          shows = r.shows;
          ticket = x + 1;
          count = r.count;
          owner = assign r.owner x id;
          holder = r.holder;
          wide = length-set s.words 0 (old + 1) ∙ wide;
          deep = r.deep;
          next = get_or-set_same s.words 0 (old + 1) 0 (omega arith) ∙ ap (λ (z : ℕ). z + 1) (sym hit);
          serving = get_or-set_other s.words 0 1 (old + 1) 0 (λ e. omega arith) ∙ r.serving;
          latest = get_or-set_other s.words 0 2 (old + 1) 0 (λ e. omega arith) ∙ r.latest;
          shown = subst (g.says r.history) (sym (get_or-set_other s.words 0 2 (old + 1) 0 (λ e. omega arith))) r.shown;
          in_order = omega arith;
          small = omega arith;
          few = r.few;
          allowed = r.allowed;
          made = r.made;
          unshown = r.unshown;
          home = λ free. r.home (unserved s.views id v w at refl (ap is_served (sym idle)) free);
          each_view = views_set (λ j u. Knows g r.theme r.history r.shows r.count r.holder (x + 1) (assign r.owner x id) j u) s.views id w
              (λ t th. record { own = k.own; others = k.others; placed = (assign_here r.owner x id x refl, omega arith, omega arith); shown = k.shown; first = k.first })
              (λ j u t _ e th. let k' = r.each_view j u t e th in record {
                own = k'.own;
                others = k'.others;
                placed = subst (λ (z : ℕ). Placed r.history (z + 1) (assign r.owner z id) j u.stage) (sym n) (placed_drawn r.history r.ticket id r.owner j u.stage k'.placed);
                shown = k'.shown;
                first = k'.first;
              });
          held = λ q low high. dite (ℕ_discrete q x)
              (λ same. (w, ap (get_elem? (set s.views id w)) (assign_here r.owner x id q same) ∙ set_here s.views id w (at_below s.views id v at), ap is_some live, sym same))
              (λ ne. subst (IsHeld (set s.views id w) q) (sym (assign_else r.owner x id q ne)) (held_set s.views id v w q (r.owner q) at refl (λ mine. absurd (subst (HasTicket q) idle mine)) (r.held q low (omega arith))));
        }),
        ((λ _. refl), λ miss. absurd (miss hit)),
      ))
      (λ miss. (
        v,
        keeps,
        tt,
        subst (λ b. Rule (stepped s 0 (either b (old + 1) x) id me.1 v keeps)) (sym (ne_eqb x old miss)) (stays g seats s r 0 id me.1 v at),
        ((λ hit. absurd (miss hit)), λ _. refl),
      ))

  -- only the owner of the served ticket can be served
  not_served : (history : List E) (ticket : ℕ) (owner : ℕ → ℕ) (j id : ℕ) (st : Stage E) → Placed history ticket owner j st → j ≢ id → owner (length history) ≡ id → is_served st ≡ false
  not_served history ticket owner j id Idle p ne own = refl
  not_served history ticket owner j id (Waiting t) p ne own = refl
  not_served history ticket owner j id (Served t noted) p ne own = absurd (ne (sym p.0 ∙ ap owner p.1 ∙ own))

  pub looks : (slots id : ℕ) (me : M) (h : H) (t : ℕ) → me.0.theme ≡ Some h → me.0.stage ≡ Waiting t
      → Allows Rule slots id me 1 (λ n. n) (looked g (step slots 1 0 0 none) me)
  looks slots id me h t live waits s r _ at _ = let x : ℕ = get_or s.words 1 0 in let v : V = me.0 in let n : x ≡ length r.history = r.serving in let k = r.each_view id v h at live in
      let ticket : ticket_of v.stage ≡ t = ap ticket_of waits in
      let p : Placed r.history r.ticket r.owner id (Waiting t) = subst (Placed r.history r.ticket r.owner id) waits k.placed in
      let lt = p.2 in dite (ℕ_discrete x t)
      (λ hit. let here : t ≡ length r.history = sym hit ∙ n in
      let none_served : AreUnserved s.views = λ j u h' e th. dite (ℕ_discrete j id)
      (λ same. let is : v ≡ u = some-injective v u (sym at ∙ ap (get_elem? s.views) (sym same) ∙ e) in ap (λ (y : V). is_served y.stage) (sym is) ∙ ap is_served waits)
      (λ ne. not_served r.history r.ticket r.owner j id u.stage (r.each_view j u h' e th).placed ne (ap r.owner (sym here) ∙ p.0)) in
      let home = r.home none_served in let value : T = home.0 in let found : g.history value ≡ r.history = home.3 in
      let w : V = staged v (Served x (g.history value)) in (
        w,
        takes 0 (Some value),
        home.1,
        record {
          theme = r.theme;
          history = r.history;
          shows = r.shows;
          ticket = r.ticket;
          count = r.count;
          owner = r.owner;
          holder = r.holder;
          wide = length-set s.words 1 x ∙ r.wide;
          deep = length-set s.homes 0 none ∙ r.deep;
          next = get_or-set_other s.words 1 0 x 0 (λ e. omega arith) ∙ r.next;
          serving = ap (λ l. get_or l 1 0) (set-get_or s.words 1 0) ∙ n;
          latest = get_or-set_other s.words 1 2 x 0 (λ e. omega arith) ∙ r.latest;
          shown = subst (g.says r.history) (sym (get_or-set_other s.words 1 2 x 0 (λ e. omega arith))) r.shown;
          in_order = r.in_order;
          small = r.small;
          few = r.few;
          allowed = r.allowed;
          made = r.made;
          unshown = r.unshown;
          home = λ free. absurd (true≢false (free id w h (set_here s.views id w (at_below s.views id v at)) live));
          each_view = views_set (λ j u. Knows g r.theme r.history r.shows r.count r.holder r.ticket r.owner j u) s.views id w
              (λ h' th. record { own = k.own; others = k.others; placed = (ap r.owner hit ∙ p.0, n, omega arith, found); shown = k.shown; first = k.first })
              (λ j u h' _ e th. r.each_view j u h' e th);
          held = λ q low high. held_set s.views id v w q (r.owner q) at refl (λ mine. hit ∙ subst (HasTicket q) waits mine) (r.held q low high);
        },
        ((λ _. (value, refl, finds_home g v r.theme r.history r.count r.holder id value r.allowed k.own home.2 found)), λ miss. absurd (miss (hit ∙ sym ticket))),
      ))
      (λ miss. (v, keeps, tt, stays g seats s r 1 id me.1 v at, ((λ hit. absurd (miss (hit ∙ ticket))), λ _. refl)))

  own_skips : (n : ℕ) (h : List E) (e : E) → g.maker e ≢ n → own_of g.maker n (h ++ e ∷ []) ≡ own_of g.maker n h
  own_skips n h e ne = filter-append (λ x. eqb (g.maker x) n) h (e ∷ []) ∙ (ap (λ b. own_of g.maker n h ++ cond b (e ∷ []) []) (ne_eqb (g.maker e) n ne) ∙ append-nil (own_of g.maker n h))

  -- an entry of another number
  holds_more : (theme : H) (history : List E) (count : ℕ) (holder : ℕ → ℕ) (seat : ℕ) (p : Knowledge H E) (e : E) → g.fits theme (history ++ e ∷ []) → g.maker e ≢ p.number → Holds g theme history count holder seat p
      → Holds g theme (history ++ e ∷ []) count holder seat p
  holds_more theme history count holder seat p e fit ne k = record {
    theme_is = k.theme_is;
    below = k.below;
    at = k.at;
    more = ((k.more.0.0 ++ e ∷ [], sym (append_assoc p.seen k.more.0.0 (e ∷ [])) ∙ ap (λ l. l ++ e ∷ []) k.more.0.1), own_skips p.number history e ne ∙ k.more.1);
    known = λ word has. g.says_longer theme history (e ∷ []) word fit (k.known word has);
  }

  placed_passed : (history : List E) (e : E) (ticket : ℕ) (owner : ℕ → ℕ) (j id : ℕ) (st : Stage E) → owner (length history) ≡ id → j ≢ id → Placed history ticket owner j st
      → Placed (history ++ e ∷ []) ticket owner j st
  placed_passed history e ticket owner j id Idle own ne p = tt
  placed_passed history e ticket owner j id (Waiting t) own ne p = let a = p.1 in
      let apart : t ≢ length history = λ (same : t ≡ length history). ne (sym p.0 ∙ ap owner same ∙ own) in
      (p.0, dite (ℕ_discrete t (length history)) (λ same. absurd (apart same)) (λ other. omega (arith, length-append history (e ∷ []))), p.2)
  placed_passed history e ticket owner j id (Served t noted) own ne p = absurd (ne (sym p.0 ∙ ap owner p.1 ∙ own))

  abbrev in_hand : T → List (ℕ × Option T) → T
  in_hand d [] = d
  in_hand d (x ∷ xs) = unwrap_or x.1 d

  passes_at : (slots id : ℕ) (v : V) (value : T) (t : ℕ) (before : List E) (e : E) → v.theme ≡ Some (g.theme value) → v.stage ≡ Served t before → v.others ≡ []
      → g.history value ≡ before ++ e ∷ [] → g.maker e ≡ v.number → g.fits (g.theme value) (g.history value)
      → Allows Rule slots id (v, (0, Some value) ∷ []) 1 (λ n. (n + 1) % 18446744073709551616) (gave g (step slots 1 1 0 none) (v, (0, Some value) ∷ []))
  passes_at slots id v value t before e live served alone grown mine fit s r _ at _ = let x : ℕ = get_or s.words 1 0 in let x' : ℕ = (x + 1) % 18446744073709551616 in let n : x ≡ length r.history = r.serving in
      let k = r.each_view id v (g.theme value) at live in let o = k.own in
      let p : Placed r.history r.ticket r.owner id (Served t before) = subst (Placed r.history r.ticket r.owner id) served k.placed in
      let here = p.1 in let lt = p.2 in let small = r.small in let wide = r.wide in let deep = r.deep in
      let is : g.history value ≡ r.history ++ e ∷ [] = grown ∙ ap (λ l. l ++ e ∷ []) p.3 in
      let one_theme : g.theme value ≡ r.theme = ap (λ (q : Option H). unwrap_or q r.theme) (sym live ∙ o.theme_is) in
      let fit' : g.fits r.theme (r.history ++ e ∷ []) = subst (λ (z : H × List E). g.fits z.0 z.1) (λ i. (one_theme i, is i)) fit in
      let longer : length (r.history ++ e ∷ []) ≡ length r.history + 1 = length-append r.history (e ∷ []) in
      let up : x' ≡ length (r.history ++ e ∷ []) = omega arith in
      let own : r.owner (length r.history) ≡ id = ap r.owner (sym here) ∙ p.0 in
      let h : List E = r.history ++ e ∷ [] in
      let w : V = passed v (g.history value) in (
        w,
        gives,
        tt,
        record {
          theme = r.theme;
          history = h;
          shows = r.shows;
          ticket = r.ticket;
          count = r.count;
          owner = r.owner;
          holder = r.holder;
          wide = length-set s.words 1 x' ∙ wide;
          deep = length-set s.homes 0 (some (Some value)) ∙ deep;
          next = get_or-set_other s.words 1 0 x' 0 (λ e. omega arith) ∙ r.next;
          serving = get_or-set_same s.words 1 x' 0 (omega arith) ∙ up;
          latest = get_or-set_other s.words 1 2 x' 0 (λ e. omega arith) ∙ r.latest;
          shown = subst (g.says h) (sym (get_or-set_other s.words 1 2 x' 0 (λ e. omega arith))) (g.says_longer r.theme r.history (e ∷ []) (get_or s.words 2 0) fit' r.shown);
          in_order = omega arith;
          small = r.small;
          few = r.few;
          allowed = fit';
          made = λ m far. let b = o.below in own_skips m r.history e (λ (same : g.maker e ≡ m). omega arith) ∙ r.made m far;
          unshown = r.unshown;
          home = λ _. (value, set_here s.homes 0 (some (Some value)) (omega arith), one_theme, is);
          each_view = views_set (λ j u. Knows g r.theme h r.shows r.count r.holder r.ticket r.owner j u) s.views id w
              (λ h' th. record {
                own = record {
                  theme_is = o.theme_is;
                  below = o.below;
                  at = o.at;
                  more = (([], append-nil (g.history value) ∙ is), ap (own_of g.maker v.number) (sym is));
                  known = λ word has. g.says_longer r.theme r.history (e ∷ []) word fit' (o.known word has);
                };
                others = λ q has. absurd (subst (λ l. Has l q) alone has);
                placed = tt;
                shown = k.shown;
                first = k.first;
              })
              (λ j u h' ne e' th. let k' = r.each_view j u h' e' th in record {
                own = holds_more r.theme r.history r.count r.holder j (knowledge_of u) e fit' (λ (same : g.maker e ≡ u.number). ne (sym k'.own.at ∙ ap r.holder (sym same ∙ mine) ∙ o.at)) k'.own;
                others = λ q has. let o' = k'.others q has in holds_more r.theme r.history r.count r.holder j q e fit' (λ (same : g.maker e ≡ q.number). ne (sym o'.at ∙ ap r.holder (sym same ∙ mine) ∙ o.at)) o';
                placed = placed_passed r.history e r.ticket r.owner j id u.stage own ne k'.placed;
                shown = k'.shown;
                first = k'.first;
              });
          held = λ q low high. held_set s.views id v w q (r.owner q) at refl (λ mine. let is : t ≡ q = subst (HasTicket q) served mine in absurd (omega arith)) (r.held q (omega arith) high);
        },
        λ value' same. ap (λ u. (passed v (g.history u), [])) (ap (in_hand value) same),
      )

  pub passes : (slots id : ℕ) (me : M) (value : T) (t : ℕ) (before : List E) (e : E) → me.1 ≡ (0, Some value) ∷ [] → me.0.theme ≡ Some (g.theme value) → me.0.stage ≡ Served t before → me.0.others ≡ []
      → g.history value ≡ before ++ e ∷ [] → g.maker e ≡ me.0.number → g.fits (g.theme value) (g.history value)
      → Allows Rule slots id me 1 (λ n. (n + 1) % 18446744073709551616) (gave g (step slots 1 1 0 none) me)
  passes slots id me value t before e held live served alone grown mine fit =
      subst (λ (c : List (ℕ × Option T)). Allows Rule slots id (me.0, c) 1 (λ n. (n + 1) % 18446744073709551616) (gave g (step slots 1 1 0 none) (me.0, c))) (sym held)
      (passes_at slots id me.0 value t before e live served alone grown mine fit)
