-- A seat may give out a number, and take in another seat.
use Rattle.std.proofs.Common.{◌≡◌, ℕ, ◌+◌, ◌<◌, eqb, cond, ◌≢◌, List, [], ◌∷◌, length, set, sym, refl, ap, ◌∙◌, subst, ⊎_elim, arith, Option, Some, eq-eqb, ne_eqb}
use mathlib.Core.Logic.{dite}
use mathlib.Core.Option.{some, some-injective}
use native.Mathlib.Decide.{ℕ_discrete}
use lib.ListN.{get_elem?}
use Rattle.atomic_table.specs.Table.{State, Splits, Joins}
use Rattle.atomic_table.proofs.Lists.{at_longer, at_set, set_else}
use Rattle.turn_table.specs.declared.kept.Kept.{Ghosts}
use Rattle.turn_table.specs.declared.view.View.{View}
use Rattle.turn_table.specs.declared.view.Knowledge.{Knowledge}
use Rattle.turn_table.specs.declared.view.Stage.TheVariants.{Idle}
use Rattle.turn_table.specs.Views.{is_served, dealt, newcomer, knowledge_of, joined, spent}
use Rattle.turn_table.specs.Rule.{Holds, Knows, InTurn}
use Rattle.turn_table.proofs.Basics.{assign, assign_here, assign_else, none≢some, at_snoc}
use Rattle.turn_table.proofs.Views.{views_set, unserved, held_set, held_longer, held_without}

module _ {T H E : Type 0} (g : Ghosts T H E) (seats : ℕ) where
  abbrev V : Type 0
  V = View H E

  abbrev St : Type 0
  St = State (Option T) V

  abbrev Rule : St → Type 0
  Rule = InTurn g seats

  holds_dealt : (theme : H) (history : List E) (count at seat : ℕ) (holder : ℕ → ℕ) (p : Knowledge H E) → Holds g theme history count holder seat p → Holds g theme history (count + 1) (assign holder count at) seat p
  holds_dealt theme history count at seat holder p k =
      let b = k.below in record { theme_is = k.theme_is; below = omega arith; at = assign_else holder count at p.number (λ e. omega arith) ∙ k.at; more = k.more; known = k.known }

  pub deals : (id : ℕ) (v : V) (h : H) → v.theme ≡ Some h → v.number ≡ 0 → v.given < seats → Splits Rule id v (dealt v) (newcomer v)
  deals id v h live zero_is room s r at = let k = r.each_view id v h at live in let o = k.own in let given : v.given ≡ r.count = k.first zero_is in let n : ℕ = length (set s.views id (dealt v)) in
      let K : ℕ → V → Type 0 = Knows g r.theme r.history r.shows (r.count + 1) (assign r.holder r.count n) r.ticket r.owner in
      let old : K id (dealt v) = record {
        own = holds_dealt r.theme r.history r.count n id r.holder (knowledge_of v) o;
        others = λ q has. holds_dealt r.theme r.history r.count n id r.holder q (k.others q has);
        placed = k.placed;
        shown = k.shown;
        first = λ _. ap (λ (z : ℕ). z + 1) given;
      } in
      let others : (j : ℕ) (u : V) (t : H) → j ≢ id → get_elem? s.views j ≡ some u → u.theme ≡ Some t → K j u = λ j u t ne e th. let k' = r.each_view j u t e th in record {
        own = holds_dealt r.theme r.history r.count n j r.holder (knowledge_of u) k'.own;
        others = λ q has. holds_dealt r.theme r.history r.count n j r.holder q (k'.others q has);
        placed = k'.placed;
        shown = k'.shown;
        first = λ z. absurd (ne (sym k'.own.at ∙ ap r.holder (z ∙ sym zero_is) ∙ o.at));
      } in
      let new : K n (newcomer v) = record {
        own = record { theme_is = o.theme_is; below = omega arith; at = assign_here r.holder r.count n v.given given; more = ((r.history, refl), r.made v.given (omega arith)); known = λ word has. absurd has };
        others = λ q has. absurd has;
        placed = tt;
        shown = r.unshown v.given (omega arith);
        first = λ (z : v.given ≡ 0). let b = o.below in absurd (omega arith);
      } in record {
        theme = r.theme;
        history = r.history;
        shows = r.shows;
        ticket = r.ticket;
        count = r.count + 1;
        owner = r.owner;
        holder = assign r.holder r.count n;
        wide = r.wide;
        deep = r.deep;
        next = r.next;
        serving = r.serving;
        latest = r.latest;
        shown = r.shown;
        in_order = r.in_order;
        small = r.small;
        few = omega arith;
        allowed = r.allowed;
        made = λ m far. r.made m (omega arith);
        unshown = λ m far. r.unshown m (omega arith);
        home = λ free. r.home (unserved s.views id v (dealt v) at refl refl (λ j u t e th. free j u t (at_longer (set s.views id (dealt v)) (newcomer v ∷ []) j u e) th));
        each_view = λ j u t e th. ⊎_elim (λ in_old. views_set K s.views id (dealt v) (λ _ _. old) others j u t in_old th)
            (λ p. subst (λ (z : ℕ × V). K z.0 z.1) (λ i. (sym p.0 i, p.1 i)) new)
            (at_snoc (set s.views id (dealt v)) (newcomer v) u j e);
        held = λ q low high. held_longer (set s.views id (dealt v)) (newcomer v ∷ []) q (r.owner q) (held_set s.views id v (dealt v) q (r.owner q) at refl (λ mine. mine) (r.held q low high));
      }

  holds_joined : (theme : H) (history : List E) (count id other seat : ℕ) (holder : ℕ → ℕ) (p : Knowledge H E) → seat ≢ other → Holds g theme history count holder seat p
      → Holds g theme history count (λ n. cond (eqb (holder n) other) id (holder n)) seat p
  holds_joined theme history count id other seat holder p ne k =
      record { theme_is = k.theme_is; below = k.below; at = ap (λ b. cond b id (holder p.number)) (ne_eqb (holder p.number) other (λ e. ne (sym k.at ∙ e))) ∙ k.at; more = k.more; known = k.known }

  pub joins : (id : ℕ) (v : V) (other : ℕ) (w : V) (h h' : H) → v.theme ≡ Some h → w.theme ≡ Some h' → w.stage ≡ Idle → Joins Rule id v other w (joined v w) spent
  joins id v other w h h' live live' idle s r at apart there = let k = r.each_view id v h at live in let vs : List V = set s.views id (joined v w) in
      let l = (r.each_view other w h' (sym (set_else s.views id other (joined v w) apart) ∙ there) live').own in
      let holder : ℕ → ℕ = λ n. cond (eqb (r.holder n) other) id (r.holder n) in let apart' : id ≢ other = λ (e : id ≡ other). apart (sym e) in
      let K : ℕ → V → Type 0 = Knows g r.theme r.history r.shows r.count holder r.ticket r.owner in record {
        theme = r.theme;
        history = r.history;
        shows = r.shows;
        ticket = r.ticket;
        count = r.count;
        owner = r.owner;
        holder = holder;
        wide = r.wide;
        deep = r.deep;
        next = r.next;
        serving = r.serving;
        latest = r.latest;
        shown = r.shown;
        in_order = r.in_order;
        small = r.small;
        few = r.few;
        allowed = r.allowed;
        made = r.made;
        unshown = r.unshown;
        home = λ free. r.home (unserved s.views id v (joined v w) at refl refl (λ j u t e th. dite (ℕ_discrete j other)
            (λ same. let is : w ≡ u = some-injective w u (sym there ∙ ap (get_elem? vs) (sym same) ∙ e) in ap (λ (x : V). is_served x.stage) (sym is) ∙ ap is_served idle)
            (λ ne. free j u t (set_else vs other j spent ne ∙ e) th)));
        each_view = λ j u t e th. ⊎_elim
            (λ p. absurd (none≢some t (ap (λ (x : V). x.theme) p.1 ∙ th)))
            (λ p. views_set (λ i x. i ≢ other → K i x) s.views id (joined v w)
            (λ _ _ _. record {
              own = holds_joined r.theme r.history r.count id other id r.holder (knowledge_of v) apart' k.own;
              others = λ q has. ⊎_elim
                  (λ (is : knowledge_of w ≡ q). subst (Holds g r.theme r.history r.count holder id) is
                  (record { theme_is = l.theme_is; below = l.below; at = ap (λ b. cond b id (r.holder w.number)) (eq-eqb (r.holder w.number) other l.at); more = l.more; known = l.known }))
                  (λ has'. holds_joined r.theme r.history r.count id other id r.holder q apart' (k.others q has')) has;
              placed = k.placed;
              shown = k.shown;
              first = k.first;
            })
            (λ i x t' ne e' th' other'. let y = r.each_view i x t' e' th' in record {
              own = holds_joined r.theme r.history r.count id other i r.holder (knowledge_of x) other' y.own;
              others = λ q has. holds_joined r.theme r.history r.count id other i r.holder q other' (y.others q has);
              placed = y.placed;
              shown = y.shown;
              first = y.first;
            }) j u t p.1 th p.0)
            (at_set vs other j spent u e);
        held = λ q low high. held_without vs other w spent q (r.owner q) there idle (held_set s.views id v (joined v w) q (r.owner q) at refl (λ mine. mine) (r.held q low high));
      }
