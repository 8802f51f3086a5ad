-- Seats in a list, when they are made and when they come back.
use Rattle.std.proofs.Common.{◌≡◌, ℕ, zero, suc, ◌+◌, ◌-◌, ◌<◌, ◌≤◌, List, [], ◌∷◌, ◌++◌, length, length-append, get_or, drop, sym, refl, ap, ◌∙◌, subst, inl, inr, ⊎_elim, arith, Some, Option}
use mathlib.Core.Option.{some, some-injective, some-ne-none}
use lib.ListN.{get_elem?}
use Rattle.atomic_table.specs.Seated.{TableId}
use Rattle.atomic_table.specs.Table.{Me}
use Rattle.atomic_table.proofs.Lists.{at_index, at_longer, at_last}
use Rattle.turn_table.specs.declared.kept.Kept.{Ghosts}
use Rattle.turn_table.specs.declared.seats.KeptSeat.{KeptSeat}
use Rattle.turn_table.specs.declared.view.View.{View}
use Rattle.turn_table.specs.Views.{fresh, newcomer, joined, knowledge_of, Has, Follows}
use Rattle.turn_table.specs.Plays.{HasAll, Settles}
use Rattle.turn_table.specs.declared.view.Knowledge.{Knowledge}
use mathlib.Core.Logic.{dite}
use native.Mathlib.Decide.{ℕ_discrete}
use Rattle.turn_table.specs.Seats.{standing, IsNew, EachSeat, IsBack, GoesOn}
use Rattle.turn_table.proofs.Basics.{empty_of, at_below, at_snoc}
use Rattle.turn_table.proofs.Standings.{view_of, IsSeated, stands_new, seated_back, follows_on}

get_or_any : {A : Type 0} (l : List A) (k : ℕ) (d e : A) → k < length l → get_or l k d ≡ get_or l k e
get_or_any [] k d e h = absurd (omega arith)
get_or_any (x ∷ xs) zero d e h = refl
get_or_any (x ∷ xs) (suc k) d e h = get_or_any xs k d e (omega arith)

get_or_at : {A : Type 0} (l : List A) (k : ℕ) (d a : A) → get_elem? l k ≡ some a → get_or l k d ≡ a
get_or_at [] k d a e = absurd (some-ne-none a (sym e))
get_or_at (x ∷ xs) zero d a e = some-injective x a e
get_or_at (x ∷ xs) (suc k) d a e = get_or_at xs k d a e

module _ {T H E : Type 0} where
  -- P of each seat and its place, where there is one
  abbrev pub At : (ℕ → KeptSeat T H E → Type 0) → List (KeptSeat T H E) → Type 0
  At P seats = (k : ℕ) (s : KeptSeat T H E) → get_elem? seats k ≡ some s → P k s

  pub each_at : (P : ℕ → KeptSeat T H E → Type 0) (seats : List (KeptSeat T H E)) → EachSeat P seats → At P seats
  each_at P seats each k s e = subst (P k) (get_or_at seats k s s e) (each k s (at_below seats k s e))

  pub at_each : (P : ℕ → KeptSeat T H E → Type 0) (seats : List (KeptSeat T H E)) → At P seats → EachSeat P seats
  at_each P seats at k d h = at k (get_or seats k d) (at_index seats k (get_or seats k d) h (get_or_any seats k d (get_or seats k d) h))

module _ {T H E : Type 0} (table : TableId) (theme : H) where
  pub new_more : (seats : List (KeptSeat T H E)) (s : KeptSeat T H E) → At (λ k x. IsNew table theme (k + 1) x) seats → IsNew table theme (length seats + 1) s
      → At (λ k x. IsNew table theme (k + 1) x) (seats ++ s ∷ [])
  new_more seats s old new k x e = ⊎_elim (old k x) (λ p. subst (λ (z : ℕ × KeptSeat T H E). IsNew table theme (z.0 + 1) z.1) (λ i. (sym p.0 i, p.1 i)) new) (at_snoc seats s x k e)

  pub new_first : (seats : List (KeptSeat T H E)) (s : KeptSeat T H E) → At (λ k x. IsNew table theme (k + 1) x) seats → IsNew table theme 0 s → At (IsNew table theme) (s ∷ seats)
  new_first seats s old new zero x e = subst (IsNew table theme 0) (some-injective s x e) new
  new_first seats s old new (suc k) x e = subst (λ (n : ℕ). IsNew table theme n x) (let up : k + 1 ≡ suc k = omega arith in up) (old k x e)

  pub newcomer_is_new : (v : View H E) (s : KeptSeat T H E) (n given : ℕ) → s.seat.table_id ≡ table → view_of s ≡ newcomer v → v ≡ fresh (Some theme) 0 given → n ≡ given → IsNew table theme n s
  newcomer_is_new v s n given t e is same = stands_new table theme n 0 s t (e ∙ (ap newcomer is ∙ ap (λ k. fresh (Some theme) k 0) (sym same)))

pub first_apart : {A : Type 0} (l : List A) (x : A) → 0 < length l → x ≡ get_or l 0 x → l ≡ x ∷ drop 1 l
first_apart [] x h e = absurd (omega arith)
first_apart (y ∷ ys) x h e = λ i. sym e i ∷ ys

some_at : {A : Type 0} (l : List A) (i : ℕ) → i < length l → (a : A) × (get_elem? l i ≡ some a)
some_at [] i h = absurd (omega arith)
some_at (x ∷ xs) zero h = (x, refl)
some_at (x ∷ xs) (suc i) h = some_at xs i (omega arith)

module _ {T H E : Type 0} where
  -- the first seat has taken in the last ones, and `left` are the others
  pub record Gathering (table : TableId) (start : View H E) (all left : List (KeptSeat T H E)) (first : TableId) (me : Me (Option T) (View H E)) : Type 0 where
    pub same : first ≡ table
    pub view_is : me ≡ (record start { others = me.0.others }, [])
    pub fewer : length left + 1 ≤ length all
    pub these : (k : ℕ) (s : KeptSeat T H E) → get_elem? left k ≡ some s → get_elem? all (k + 1) ≡ some s
    pub taken : (k : ℕ) (s : KeptSeat T H E) → length left ≤ k → get_elem? all (k + 1) ≡ some s → Has me.0.others (knowledge_of (view_of s))

  pub each_seated : (table : TableId) (seats : List (KeptSeat T H E)) → EachSeat (IsBack table) seats → At (IsSeated table) seats
  each_seated table seats each k s e = seated_back table k s (each_at (IsBack table) seats each k s e)

module _ {T H E : Type 0} (table : TableId) (start : View H E) (all : List (KeptSeat T H E)) where
  pub begins_gathering : (left : List (KeptSeat T H E)) (s : KeptSeat T H E) (first : TableId) (me : Me (Option T) (View H E)) → all ≡ s ∷ left → first ≡ table → me ≡ (start, []) → start.others ≡ []
      → Gathering table start all left first me
  begins_gathering left s first me e t is empty = let long : length all ≡ suc (length left) = ap length e in record {
    same = t;
    view_is = is ∙ (λ i. (record start { others = sym (ap (λ m. m.0.others) is) i }, []));
    fewer = omega arith;
    these = λ k x at. let up : k + 1 ≡ suc k = omega arith in ap (get_elem? all) up ∙ ap (λ l. get_elem? l (suc k)) e ∙ at;
    taken = λ k x far at. let up : suc k ≡ k + 1 = omega arith in let low = at_below left k x (ap (λ l. get_elem? l (suc k)) (sym e) ∙ ap (get_elem? all) up ∙ at) in absurd (omega arith);
  }

  pub goes_on_gathering : (left rest : List (KeptSeat T H E)) (s : KeptSeat T H E) (first first' : TableId) (me me' : Me (Option T) (View H E)) → left ≡ rest ++ s ∷ [] → first' ≡ first
      → me' ≡ (joined me.0 (view_of s), me.1) → Gathering table start all left first me → Gathering table start all rest first' me'
  goes_on_gathering left rest s first first' me me' e t is go = let w = view_of s in let long : length left ≡ length rest + 1 = ap length e ∙ length-append rest (s ∷ []) in let fewer = go.fewer in
      let past_is : me'.0.others ≡ knowledge_of w ∷ me.0.others = ap (λ m. m.0.others) is in record {
        same = t ∙ go.same;
        view_is = is ∙ (ap (λ (m : Me (Option T) (View H E)). (joined m.0 w, m.1)) go.view_is ∙ (λ i. (record start { others = sym past_is i }, [])));
        fewer = omega arith;
        these = λ k x at. go.these k x (subst (λ l. get_elem? l k ≡ some x) (sym e) (at_longer rest (s ∷ []) k x at));
        taken = λ k x far at. subst (λ (l : List (Knowledge H E)). Has l (knowledge_of (view_of x))) (sym past_is) (dite (ℕ_discrete k (length rest))
            (λ same. let this = go.these (length rest) s (subst (λ l. get_elem? l (length rest) ≡ some s) (sym e) (at_last rest s (length rest) refl)) in
            inl (ap (λ y. knowledge_of (view_of y)) (some-injective s x (sym this ∙ ap (λ n. get_elem? all (n + 1)) (sym same) ∙ at))))
            (λ other. inr (go.taken k x (omega arith) at)));
      }

  pub last_back : (left rest : List (KeptSeat T H E)) (s : KeptSeat T H E) (first : TableId) (me : Me (Option T) (View H E)) → left ≡ rest ++ s ∷ [] → At (IsSeated table) all → Gathering table start all left first me
      → IsSeated table (length rest + 1) s
  last_back left rest s first me e back go = back (length rest + 1) s (go.these (length rest) s (subst (λ l. get_elem? l (length rest) ≡ some s) (sym e) (at_last rest s (length rest) refl)))

  pub first_back : (s : KeptSeat T H E) (n : ℕ) → length all ≡ n → 0 < n → s ≡ get_or all 0 s → At (IsSeated table) all → (all ≡ s ∷ drop 1 all) × IsSeated table 0 s
  first_back s n long room e back = let split = first_apart all s (omega arith) e in (split, back 0 s (ap (λ l. get_elem? l 0) split))

  pub gathered : (left : List (KeptSeat T H E)) (first : TableId) (me : Me (Option T) (View H E)) → length left ≡ 0 → Gathering table start all left first me → Gathering table start all [] first me
  gathered left first me none go = subst (λ l. Gathering table start all l first me) (empty_of left none) go

  -- once all others were taken in, the seat has each number
  pub has_all : (n : ℕ) (first : TableId) (me : Me (Option T) (View H E)) → length all ≡ n → At (IsSeated table) all → start.number ≡ 0 → Gathering table start all [] first me → HasAll n me.0
  has_all n first me long back zero_is go k low = dite (ℕ_discrete k 0)
      (λ z. inl (z ∙ sym (ap (λ m. m.0.number) go.view_is ∙ zero_is)))
      (λ nz. let s = some_at all k (omega arith) in let m : ℕ = k - 1 in let up : m + 1 ≡ k = omega arith in
      inr (knowledge_of (view_of s.0), (back k s.0 s.1).1, go.taken m s.0 (omega arith) (ap (get_elem? all) up ∙ s.1)))

  -- what the value is to each seat
  pub each_goes_on : (g : Ghosts T H E) (n : ℕ) (value : T) (s : KeptSeat T H E) (left : List (KeptSeat T H E)) (first : TableId) (me : Me (Option T) (View H E)) → all ≡ s ∷ left → view_of s ≡ start
      → Gathering table start all [] first me → Settles g n me.0 value → At (λ k x. GoesOn g (standing x) value) all
  each_goes_on g n value s left first me e is go settles zero x at =
      let same : start ≡ view_of x = sym is ∙ ap view_of (some-injective s x (ap (λ l. get_elem? l 0) (sym e) ∙ at)) in
      let out : Follows g (knowledge_of start) value = subst (λ (v : View H E). Follows g (knowledge_of v) value) (ap (λ m. m.0) go.view_is) settles.0.1 in
      follows_on g x value (subst (λ (v : View H E). Follows g (knowledge_of v) value) same out)
  each_goes_on g n value s left first me e is go settles (suc k) x at = let up : k + 1 ≡ suc k = omega arith in
      follows_on g x value (settles.1 (knowledge_of (view_of x)) (go.taken k x (omega arith) (ap (get_elem? all) up ∙ at)))
