-- A word may be shown, and met.
use Rattle.std.proofs.Common.{◌≡◌, ℕ, cond, ◌≢◌, List, ◌∷◌, get_or, set, sym, refl, ap, ◌∙◌, subst, ⊎_elim, arith, Option, Some, length-set, get_or-set_other, get_or-set_same, eq-eqb, ne_eqb}
use mathlib.Core.Option.{none}
use lib.Seq.{set-get_or}
use Rattle.atomic_table.specs.Table.{State, Me, step, keeps, Allows}
use Rattle.turn_table.specs.declared.kept.Kept.{Ghosts}
use Rattle.turn_table.specs.declared.view.View.{View}
use Rattle.turn_table.specs.Views.{told, showing}
use Rattle.turn_table.specs.Shows.{Shown, shown_by}
use Rattle.turn_table.specs.Rule.{Knows, InTurn}
use Rattle.turn_table.specs.Plays.{showed, peeked}
use Rattle.turn_table.proofs.Views.{views_set, unserved, held_set}

module _ {T H E : Type 0} (g : Ghosts T H E) (seats : ℕ) where
  abbrev V : Type 0
  V = View H E

  abbrev St : Type 0
  St = State (Option T) V

  abbrev M : Type 0
  M = Me (Option T) V

  abbrev Rule : St → Type 0
  Rule = InTurn g seats

  shown_here : (m n word : ℕ) (l : List Shown) → m ≡ n → shown_by n ((record { by = m; word = word }) ∷ l) ≡ word ∷ shown_by n l
  shown_here m n word l e = ap (λ b. cond b (word ∷ shown_by n l) (shown_by n l)) (eq-eqb m n e)

  shown_else : (m n word : ℕ) (l : List Shown) → m ≢ n → shown_by n ((record { by = m; word = word }) ∷ l) ≡ shown_by n l
  shown_else m n word l ne = ap (λ b. cond b (word ∷ shown_by n l) (shown_by n l)) (ne_eqb m n ne)

  pub stores : (slots id : ℕ) (me : M) (h : H) (word : ℕ) → me.0.theme ≡ Some h → g.says me.0.seen word → Allows Rule slots id me 2 (λ _. word) (λ _. showed (step slots 2 word 0 none) me word)
  stores slots id me h word live true_of s r _ at _ = let v : V = me.0 in let w : V = showing v word in let k = r.each_view id v h at live in let o = k.own in let rest = o.more.0 in let wide = r.wide in
      let all : List Shown = (record { by = v.number; word = word }) ∷ r.shows in (
        w,
        keeps,
        tt,
        record {
          theme = r.theme;
          history = r.history;
          shows = all;
          ticket = r.ticket;
          count = r.count;
          owner = r.owner;
          holder = r.holder;
          wide = length-set s.words 2 word ∙ wide;
          deep = r.deep;
          next = get_or-set_other s.words 2 0 word 0 (λ e. omega arith) ∙ r.next;
          serving = get_or-set_other s.words 2 1 word 0 (λ e. omega arith) ∙ r.serving;
          latest = get_or-set_same s.words 2 word 0 (omega arith);
          shown = subst (g.says r.history) (sym (get_or-set_same s.words 2 word 0 (omega arith)))
              (subst (λ l. g.says l word) rest.1 (g.says_longer r.theme v.seen rest.0 word (subst (g.fits r.theme) (sym rest.1) r.allowed) true_of));
          in_order = r.in_order;
          small = r.small;
          few = r.few;
          allowed = r.allowed;
          made = r.made;
          unshown = λ n far. let b = o.below in shown_else v.number n word r.shows (λ (same : v.number ≡ n). omega arith) ∙ r.unshown n far;
          home = λ free. r.home (unserved s.views id v w at refl refl free);
          each_view = views_set (λ j u. Knows g r.theme r.history all r.count r.holder r.ticket r.owner j u) s.views id w
              (λ h' th. record { own = o; others = k.others; placed = k.placed; shown = shown_here v.number v.number word r.shows refl ∙ ap (λ l. word ∷ l) k.shown; first = k.first })
              (λ j u h' ne e th. let k' = r.each_view j u h' e th in record {
                own = k'.own;
                others = k'.others;
                placed = k'.placed;
                shown = shown_else v.number u.number word r.shows (λ (same : v.number ≡ u.number). ne (sym k'.own.at ∙ ap r.holder (sym same) ∙ o.at)) ∙ k'.shown;
                first = k'.first;
              });
          held = λ q low high. held_set s.views id v w q (r.owner q) at refl (λ mine. mine) (r.held q low high);
        },
        refl,
      )

  pub peeks : (slots id : ℕ) (me : M) (h : H) → me.0.theme ≡ Some h → Allows Rule slots id me 2 (λ n. n) (peeked (step slots 2 0 0 none) me)
  peeks slots id me h live s r _ at _ = let x : ℕ = get_or s.words 2 0 in let v : V = me.0 in let w : V = told v x in let k = r.each_view id v h at live in let o = k.own in (
    w,
    keeps,
    tt,
    subst (λ (l : List ℕ). Rule (record { words = l; homes = s.homes; views = set s.views id w })) (sym (set-get_or s.words 2 0)) (record {
      theme = r.theme;
      history = r.history;
      shows = r.shows;
      ticket = r.ticket;
      count = r.count;
      owner = r.owner;
      holder = r.holder;
      wide = r.wide;
      deep = r.deep;
      next = r.next;
      serving = r.serving;
      latest = r.latest;
      shown = r.shown;
      in_order = r.in_order;
      small = r.small;
      few = r.few;
      allowed = r.allowed;
      made = r.made;
      unshown = r.unshown;
      home = λ free. r.home (unserved s.views id v w at refl refl free);
      each_view = views_set (λ j u. Knows g r.theme r.history r.shows r.count r.holder r.ticket r.owner j u) s.views id w
          (λ h' th. record {
            own = record { theme_is = o.theme_is; below = o.below; at = o.at; more = o.more; known = λ word has. ⊎_elim (λ (is : x ≡ word). subst (g.says r.history) is r.shown) (λ old. o.known word old) has };
            others = k.others;
            placed = k.placed;
            shown = k.shown;
            first = k.first;
          })
          (λ j u h' _ e th. r.each_view j u h' e th);
      held = λ q low high. held_set s.views id v w q (r.owner q) at refl (λ mine. mine) (r.held q low high);
    }),
    (refl, (r.shows, sym r.latest, k.shown)),
  )
