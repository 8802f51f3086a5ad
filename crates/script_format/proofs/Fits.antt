-- The rows of a text are those of a script within its limits.
use Rattle.std.proofs.Common.{◌≡◌, ℕ, ◌+◌, ◌<◌, ◌≤◌, Bool, true, false, cond, List, [], ◌∷◌, ◌++◌, length, drop, Option, Some, None, Result, Ok, Err, refl, sym, ap, ◌∙◌, subst, arith, length-append, add-zero}
use Rattle.std.specs.Prelude.{count_by, ◌||◌}
use Rattle.std.specs.List.{list_any, AllByRecursion}
use Rattle.std.specs.Option.{option_map, option_to_list}
use Rattle.std.proofs.lemmas.List.{append-nil, length-drop}
use Rattle.std.proofs.lemmas.List.Sums.{sum_by-append, sum_by-cons, sum_by_push}
use Rattle.std.proofs.lemmas.List.Folds.{list_any-append}
use Rattle.std.proofs.lemmas.List.Elements.{All-from_recursion}
use Rattle.run_script.specs.declared.fault.ScriptKind.{ScriptKind}
use Rattle.run_script.specs.declared.script.LinedEdit.{LinedEdit}
use Rattle.run_script.specs.declared.script.Plan.{Plan}
use Rattle.run_script.specs.declared.script.Item.{Item}
use Rattle.run_script.specs.declared.script.Item.TheVariants as item
use Rattle.script_format.specs.declared.row.Row.{Row}
use Rattle.script_format.specs.declared.row.Row.TheVariants as row
use Rattle.script_format.specs.Rows.{is_edit, is_move, is_session, is_box, is_end, plans, waiting, groups, sessions, held, items, standing}
use Rattle.script_format.specs.ScriptText.{on_line, words, row_of_line, rows_of}
use Rattle.script_format.specs.Reads.{IsVersion}
use Rattle.script_format.specs.Reading.{closed, opened}
use Rattle.run_script.specs.Scripts.{IsEdit, IsItem, IsPlan, HoldsClose, is_hold, is_ask, IsSession, edit_count, ask_count, IsScript}
use Rattle.script_format.proofs.RowLemmas.{waiting-append, plans-append, opened-append, closed-append, groups-are, items-append, held-append, count-more, count-same}
use Rattle.script_format.proofs.Checks.{Checked, bind-ok, checked, not_ended}

-- ---- facts of each element of a list

each-append : {X : Type 0} (P : X → Type 0) (xs ys : List X) → AllByRecursion P xs → AllByRecursion P ys → AllByRecursion P (xs ++ ys)
each-append P [] ys a b = b
each-append P (x ∷ xs) ys a b = (a.0, each-append P xs ys a.1 b)

each-push : {X : Type 0} (P : X → Type 0) (xs : List X) (y : X) → AllByRecursion P xs → P y → AllByRecursion P (xs ++ y ∷ [])
each-push P xs y a h = each-append P xs (y ∷ []) a (h, tt)

-- ---- holds

-- from a hold to a hold, or to none, through these items
abbrev HoldsLead : Option ℕ → List Item → Option ℕ → Type 0
HoldsLead h [] to = h ≡ to
HoldsLead None (item.Wait line step ∷ its) to = HoldsLead None its to
HoldsLead (Some n) (item.Wait line step ∷ its) to = ⊥
HoldsLead None (item.Ask area ∷ its) to = HoldsLead None its to
HoldsLead (Some n) (item.Ask area ∷ its) to = HoldsLead (Some (n + 1)) its to
HoldsLead None (item.Hold ∷ its) to = HoldsLead (Some 0) its to
HoldsLead (Some n) (item.Hold ∷ its) to = ⊥
HoldsLead None (item.Free ∷ its) to = ⊥
HoldsLead (Some n) (item.Free ∷ its) to = (0 < n) × HoldsLead None its to

lead-on : (h : Option ℕ) (its : List Item) (to : Option ℕ) (more : List Item) (end : Option ℕ) → HoldsLead h its to → HoldsLead to more end → HoldsLead h (its ++ more) end
lead-on h [] to more end a b = subst (λ (x : Option ℕ). HoldsLead x more end) (sym a) b
lead-on None (item.Wait line step ∷ its) to more end a b = lead-on None its to more end a b
lead-on (Some n) (item.Wait line step ∷ its) to more end a b = absurd a
lead-on None (item.Ask area ∷ its) to more end a b = lead-on None its to more end a b
lead-on (Some n) (item.Ask area ∷ its) to more end a b = lead-on (Some (n + 1)) its to more end a b
lead-on None (item.Hold ∷ its) to more end a b = lead-on (Some 0) its to more end a b
lead-on (Some n) (item.Hold ∷ its) to more end a b = absurd a
lead-on None (item.Free ∷ its) to more end a b = absurd a
lead-on (Some n) (item.Free ∷ its) to more end a b = (a.0, lead-on None its to more end a.1 b)

closes : (h : Option ℕ) (its : List Item) → HoldsLead h its None → HoldsClose h its
closes None [] a = tt
closes (Some n) [] a = absurd (cc)
closes None (item.Wait line step ∷ its) a = closes None its a
closes (Some n) (item.Wait line step ∷ its) a = absurd a
closes None (item.Ask area ∷ its) a = closes None its a
closes (Some n) (item.Ask area ∷ its) a = closes (Some (n + 1)) its a
closes None (item.Hold ∷ its) a = closes (Some 0) its a
closes (Some n) (item.Hold ∷ its) a = absurd a
closes None (item.Free ∷ its) a = absurd a
closes (Some n) (item.Free ∷ its) a = (a.0, closes None its a.1)

-- ---- what rows that passed the checks keep

pub record Fits (version : ℕ) (rows : List Row) : Type 0 where
  pub steps : count_by is_move rows ≤ 10000
  pub edits : count_by is_edit rows ≤ 1000000
  pub sessions : count_by is_session rows ≤ 8
  pub boxes : count_by is_box rows ≤ 100000
  pub plans_fit : AllByRecursion IsPlan (plans [] rows)
  pub waiting_fit : AllByRecursion (λ e. IsEdit e.edit) (waiting [] rows)
  pub closed_fit : AllByRecursion (IsSession version) (closed [] rows)
  pub opened_fit : AllByRecursion IsItem (opened [] rows)
  pub lead : HoldsLead None (opened [] rows) (held None (items rows))
  pub version_1 : version ≡ 1 → count_by is_hold (opened [] rows) ≡ 0
  pub ended : list_any is_end rows ≡ true → held None (items rows) ≡ None

fits-nil : (version : ℕ) → Fits version []
fits-nil version = record {
  steps = omega arith;
  edits = omega arith;
  sessions = omega arith;
  boxes = omega arith;
  plans_fit = tt;
  waiting_fit = tt;
  closed_fit = tt;
  opened_fit = tt;
  lead = refl;
  version_1 = λ one. refl;
  ended = λ e. refl;
}

count-row : (p : Row → Bool) (rows : List Row) (r : Row) → count_by p (rows ++ r ∷ []) ≡ count_by p rows + cond (p r) 1 0
count-row p rows r = by (p r) refl
  where
    by : (b : Bool) → p r ≡ b → count_by p (rows ++ r ∷ []) ≡ count_by p rows + cond b 1 0
    by true e = count-more p rows r e
    by false e = count-same p rows r e ∙ sym (add-zero (count_by p rows))

-- the parts that one more row changes
record Next (version : ℕ) (rows : List Row) (r : Row) : Type 0 where
  steps : count_by is_move rows + cond (is_move r) 1 0 ≤ 10000
  edits : count_by is_edit rows + cond (is_edit r) 1 0 ≤ 1000000
  sessions : count_by is_session rows + cond (is_session r) 1 0 ≤ 8
  boxes : count_by is_box rows + cond (is_box r) 1 0 ≤ 100000
  plan : AllByRecursion IsPlan (plans (waiting [] rows) (r ∷ []))
  waits : AllByRecursion (λ e. IsEdit e.edit) (waiting (waiting [] rows) (r ∷ []))
  group : AllByRecursion (IsSession version) (closed (opened [] rows) (r ∷ []))
  open_items : AllByRecursion IsItem (opened (opened [] rows) (r ∷ []))
  lead : HoldsLead None (opened (opened [] rows) (r ∷ [])) (held (held None (items rows)) (items (r ∷ [])))
  version_1 : version ≡ 1 → count_by is_hold (opened (opened [] rows) (r ∷ [])) ≡ 0
  ended : list_any is_end (r ∷ []) ≡ true → held (held None (items rows)) (items (r ∷ [])) ≡ None

fits-next : (version : ℕ) (rows : List Row) (r : Row) → Fits version rows → list_any is_end rows ≡ false → Next version rows r → Fits version (rows ++ r ∷ [])
fits-next version rows r f open_end n = record {
  steps = rw (count-row is_move rows r) n.steps;
  edits = rw (count-row is_edit rows r) n.edits;
  sessions = rw (count-row is_session rows r) n.sessions;
  boxes = rw (count-row is_box rows r) n.boxes;
  plans_fit = subst (λ (l : List Plan). AllByRecursion IsPlan l) (sym (plans-append [] rows (r ∷ []))) (each-append IsPlan (plans [] rows) (plans (waiting [] rows) (r ∷ [])) f.plans_fit n.plan);
  waiting_fit = subst (λ (l : List LinedEdit). AllByRecursion (λ e. IsEdit e.edit) l) (sym (waiting-append [] rows (r ∷ []))) n.waits;
  closed_fit = subst (λ (l : List (List Item)). AllByRecursion (IsSession version) l) (sym (closed-append [] rows (r ∷ []))) (each-append (IsSession version) (closed [] rows) (closed (opened [] rows) (r ∷ [])) f.closed_fit n.group);
  opened_fit = subst (λ (l : List Item). AllByRecursion IsItem l) (sym (opened-append [] rows (r ∷ []))) n.open_items;
  lead = subst (λ (h : Option ℕ). HoldsLead None (opened [] (rows ++ r ∷ [])) h) (sym held_is)
      (subst (λ (l : List Item). HoldsLead None l (held (held None (items rows)) (items (r ∷ [])))) (sym (opened-append [] rows (r ∷ []))) n.lead);
  version_1 = λ one. subst (λ (l : List Item). count_by is_hold l ≡ 0) (sym (opened-append [] rows (r ∷ []))) (n.version_1 one);
  ended = λ e. held_is ∙ n.ended (ended_by e);
}
  where
    held_is : held None (items (rows ++ r ∷ [])) ≡ held (held None (items rows)) (items (r ∷ []))
    held_is = ap (held None) (items-append rows (r ∷ [])) ∙ held-append None (items rows) (items (r ∷ []))

    ended_by : list_any is_end (rows ++ r ∷ []) ≡ true → list_any is_end (r ∷ []) ≡ true
    ended_by e = let parts = list_any-append is_end rows (r ∷ []) in sym (parts ∙ ap (λ (b : Bool). b || list_any is_end (r ∷ [])) open_end) ∙ e

hold-count : (xs : List Item) (i : Item) → count_by is_hold xs ≡ 0 → is_hold i ≡ false → count_by is_hold (xs ++ i ∷ []) ≡ 0
hold-count xs i e h = sum_by-append (λ x. cond (is_hold x) 1 0) xs (i ∷ []) ∙ (ap (λ (b : Bool). count_by is_hold xs + (0 + cond b 1 0)) h ∙ (add-zero (count_by is_hold xs) ∙ e))

-- the session that a new one ends
session-of : (version : ℕ) (rows : List Row) → Fits version rows → held None (items rows) ≡ None → IsSession version (opened [] rows)
session-of version rows f h = record {
  fit = All-from_recursion IsItem (opened [] rows) f.opened_fit;
  closed = closes None (opened [] rows) (subst (λ (x : Option ℕ). HoldsLead None (opened [] rows) x) h f.lead);
  version_1 = f.version_1;
}

next : (version : ℕ) (rows : List Row) (r : Row) → Fits version rows → Checked version (standing rows) r → Next version rows r
next version rows (row.Edit e) f c = record {
  steps = omega (arith, f.steps);
  edits = omega (arith, c.1);
  sessions = omega (arith, f.sessions);
  boxes = omega (arith, f.boxes);
  plan = tt;
  waits = each-push (λ (e : LinedEdit). IsEdit e.edit) (waiting [] rows) e f.waiting_fit c.0;
  group = tt;
  open_items = f.opened_fit;
  lead = f.lead;
  version_1 = f.version_1;
  ended = λ e. absurd (cc);
}
next version rows (row.Move k) f c = record {
  steps = omega (arith, c.1);
  edits = omega (arith, f.edits);
  sessions = omega (arith, f.sessions);
  boxes = omega (arith, f.boxes);
  plan = (record { edits = All-from_recursion (λ (e : LinedEdit). IsEdit e.edit) (waiting [] rows) f.waiting_fit; kernel = c.0 }, tt);
  waits = tt;
  group = tt;
  open_items = f.opened_fit;
  lead = f.lead;
  version_1 = f.version_1;
  ended = λ e. absurd (cc);
}
next version rows row.Session f c = record {
  steps = omega (arith, f.steps);
  edits = omega (arith, f.edits);
  sessions = omega (arith, c.0);
  boxes = omega (arith, f.boxes);
  plan = tt;
  waits = f.waiting_fit;
  group = (session-of version rows f c.1, tt);
  open_items = tt;
  lead = sym c.1;
  version_1 = λ one. refl;
  ended = λ e. absurd (cc);
}
next version rows row.End f c = record {
  steps = omega (arith, f.steps);
  edits = omega (arith, f.edits);
  sessions = omega (arith, f.sessions);
  boxes = omega (arith, f.boxes);
  plan = tt;
  waits = f.waiting_fit;
  group = tt;
  open_items = f.opened_fit;
  lead = f.lead;
  version_1 = f.version_1;
  ended = λ e. c.0;
}
next version rows (row.Does (item.Wait l k)) f c = record {
  steps = omega (arith, f.steps);
  edits = omega (arith, f.edits);
  sessions = omega (arith, f.sessions);
  boxes = omega (arith, f.boxes);
  plan = tt;
  waits = f.waiting_fit;
  group = tt;
  open_items = each-push IsItem (opened [] rows) (item.Wait l k) f.opened_fit c.0;
  lead = lead-on None (opened [] rows) (held None (items rows)) (item.Wait l k ∷ []) (held None (items rows)) f.lead (step (held None (items rows)) c.1);
  version_1 = λ one. hold-count (opened [] rows) (item.Wait l k) (f.version_1 one) refl;
  ended = λ e. absurd (cc);
}
  where
    step : (h : Option ℕ) → h ≡ None → HoldsLead h (item.Wait l k ∷ []) h
    step None e = refl
    step (Some n) e = absurd (cc)
next version rows (row.Does (item.Ask a)) f c = record {
  steps = omega (arith, f.steps);
  edits = omega (arith, f.edits);
  sessions = omega (arith, f.sessions);
  boxes = omega (arith, c.few);
  plan = tt;
  waits = f.waiting_fit;
  group = tt;
  open_items = each-push IsItem (opened [] rows) (item.Ask a) f.opened_fit (c.lo, c.hi, c.ordered);
  lead = lead-on None (opened [] rows) (held None (items rows)) (item.Ask a ∷ []) (option_map (λ n. n + 1) (held None (items rows))) f.lead (step (held None (items rows)));
  version_1 = λ one. hold-count (opened [] rows) (item.Ask a) (f.version_1 one) refl;
  ended = λ e. absurd (cc);
}
  where
    step : (h : Option ℕ) → HoldsLead h (item.Ask a ∷ []) (option_map (λ n. n + 1) h)
    step None = refl
    step (Some n) = refl
next version rows (row.Does item.Hold) f c = record {
  steps = omega (arith, f.steps);
  edits = omega (arith, f.edits);
  sessions = omega (arith, f.sessions);
  boxes = omega (arith, f.boxes);
  plan = tt;
  waits = f.waiting_fit;
  group = tt;
  open_items = each-push IsItem (opened [] rows) item.Hold f.opened_fit tt;
  lead = lead-on None (opened [] rows) (held None (items rows)) (item.Hold ∷ []) (Some 0) f.lead (step (held None (items rows)) c.0);
  version_1 = λ one. absurd (c.1 one);
  ended = λ e. absurd (cc);
}
  where
    step : (h : Option ℕ) → h ≡ None → HoldsLead h (item.Hold ∷ []) (Some 0)
    step None e = refl
    step (Some n) e = absurd (cc)
next version rows (row.Does item.Free) f c = record {
  steps = omega (arith, f.steps);
  edits = omega (arith, f.edits);
  sessions = omega (arith, f.sessions);
  boxes = omega (arith, f.boxes);
  plan = tt;
  waits = f.waiting_fit;
  group = tt;
  open_items = each-push IsItem (opened [] rows) item.Free f.opened_fit tt;
  lead = lead-on None (opened [] rows) (held None (items rows)) (item.Free ∷ []) None f.lead (step (held None (items rows)) c.0 c.1 c.2);
  version_1 = λ one. hold-count (opened [] rows) item.Free (f.version_1 one) refl;
  ended = λ e. absurd (cc);
}
  where
    step : (h : Option ℕ) (n : ℕ) → h ≡ Some n → 0 < n → HoldsLead h (item.Free ∷ []) None
    step None n e lt = absurd (cc)
    step (Some m) n e lt = let same : m ≡ n = cc in (subst (λ (k : ℕ). 0 < k) (sym same) lt, refl)

-- ---- counts of what the rows make

count-cons : {X : Type 0} (p : X → Bool) (x : X) (xs : List X) → count_by p (x ∷ xs) ≡ cond (p x) 1 0 + count_by p xs
count-cons p x xs = sum_by-cons (λ x. cond (p x) 1 0) x xs

length-plans : (es : List LinedEdit) (rows : List Row) → length (plans es rows) ≡ count_by is_move rows
length-plans es [] = refl
length-plans es (row.Edit e ∷ rows) = omega (arith, length-plans (es ++ e ∷ []) rows, count-cons is_move (row.Edit e) rows)
length-plans es (row.Move k ∷ rows) = omega (arith, length-plans [] rows, count-cons is_move (row.Move k) rows)
length-plans es (row.Session ∷ rows) = omega (arith, length-plans es rows, count-cons is_move row.Session rows)
length-plans es (row.Does i ∷ rows) = omega (arith, length-plans es rows, count-cons is_move (row.Does i) rows)
length-plans es (row.End ∷ rows) = omega (arith, length-plans es rows, count-cons is_move row.End rows)

edits-made : (es : List LinedEdit) (rows : List Row) → edit_count (plans es rows) + length (waiting es rows) ≡ length es + count_by is_edit rows
edits-made es [] = omega arith
edits-made es (row.Edit e ∷ rows) = omega (arith, edits-made (es ++ e ∷ []) rows, length-append es (e ∷ []), count-cons is_edit (row.Edit e) rows)
edits-made es (row.Move k ∷ rows) =
    omega (arith, edits-made [] rows, sum_by-cons (λ (p : Plan). length p.edits) (record { edits = es; kernel = k }) (plans [] rows), count-cons is_edit (row.Move k) rows)
edits-made es (row.Session ∷ rows) = omega (arith, edits-made es rows, count-cons is_edit row.Session rows)
edits-made es (row.Does i ∷ rows) = omega (arith, edits-made es rows, count-cons is_edit (row.Does i) rows)
edits-made es (row.End ∷ rows) = omega (arith, edits-made es rows, count-cons is_edit row.End rows)

length-closed : (its : List Item) (rows : List Row) → length (closed its rows) ≡ count_by is_session rows
length-closed its [] = refl
length-closed its (row.Edit e ∷ rows) = omega (arith, length-closed its rows, count-cons is_session (row.Edit e) rows)
length-closed its (row.Move k ∷ rows) = omega (arith, length-closed its rows, count-cons is_session (row.Move k) rows)
length-closed its (row.Session ∷ rows) = omega (arith, length-closed [] rows, count-cons is_session row.Session rows)
length-closed its (row.Does i ∷ rows) = omega (arith, length-closed (its ++ i ∷ []) rows, count-cons is_session (row.Does i) rows)
length-closed its (row.End ∷ rows) = omega (arith, length-closed its rows, count-cons is_session row.End rows)

asks-push : (its : List Item) (i : Item) → count_by is_ask (its ++ i ∷ []) ≡ count_by is_ask its + cond (is_ask i) 1 0
asks-push its i = sum_by_push (λ x. cond (is_ask x) 1 0) its i

box-ask : (i : Item) → is_box (row.Does i) ≡ is_ask i
box-ask (item.Wait l k) = refl
box-ask (item.Ask a) = refl
box-ask item.Hold = refl
box-ask item.Free = refl

abbrev one_if : Bool → ℕ
one_if b = cond b 1 0

boxes-made : (its : List Item) (rows : List Row) → ask_count (groups its rows) ≡ count_by is_ask its + count_by is_box rows
boxes-made its [] = omega arith
boxes-made its (row.Edit e ∷ rows) = omega (arith, boxes-made its rows, count-cons is_box (row.Edit e) rows)
boxes-made its (row.Move k ∷ rows) = omega (arith, boxes-made its rows, count-cons is_box (row.Move k) rows)
boxes-made its (row.Session ∷ rows) = omega (arith, boxes-made [] rows, sum_by-cons (count_by is_ask) its (groups [] rows), count-cons is_box row.Session rows)
boxes-made its (row.Does i ∷ rows) =
    let b : cond (is_box (row.Does i)) 1 0 ≡ cond (is_ask i) 1 0 = ap (λ (b : Bool). one_if b) (box-ask i) in
    omega (arith, b, boxes-made (its ++ i ∷ []) rows, asks-push its i, count-cons is_box (row.Does i) rows)
boxes-made its (row.End ∷ rows) = omega (arith, boxes-made its rows, count-cons is_box row.End rows)

fewer-boxes : (gs : List (List Item)) → ask_count (drop 1 gs) ≤ ask_count gs
fewer-boxes [] = omega arith
fewer-boxes (g ∷ gs) = omega (arith, sum_by-cons (count_by is_ask) g gs)

each-drop : {X : Type 0} (P : X → Type 0) (xs : List X) → AllByRecursion P xs → AllByRecursion P (drop 1 xs)
each-drop P [] a = tt
each-drop P (x ∷ xs) a = a.1

-- ---- the script of all rows

pub script-fits : (version : ℕ) (rows : List Row) → IsVersion version → Fits version rows → list_any is_end rows ≡ true
    → IsScript (record { version = version; plans = plans [] rows; sessions = sessions rows })
script-fits version rows v f e = record {
  version = v;
  few_steps = omega (arith, f.steps, length-plans [] rows);
  few_edits = omega (arith, f.edits, edits-made [] rows);
  few_sessions = few_sessions;
  few_boxes = omega (arith, f.boxes, boxes-made [] rows, fewer-boxes (groups [] rows));
  plans = All-from_recursion IsPlan (plans [] rows) f.plans_fit;
  sessions = All-from_recursion (IsSession version) (sessions rows) (each-drop (IsSession version) (groups [] rows) all);
}
  where
    all : AllByRecursion (IsSession version) (groups [] rows)
    all = subst (λ (l : List (List Item)). AllByRecursion (IsSession version) l) (sym (groups-are [] rows))
        (each-push (IsSession version) (closed [] rows) (opened [] rows) f.closed_fit (session-of version rows f (f.ended e)))

    few_sessions : length (sessions rows) ≤ 8
    few_sessions =
        let s = f.sessions in
        omega (arith, s, length-closed [] rows, ap (λ (l : List (List Item)). length l) (groups-are [] rows), length-append (closed [] rows) (opened [] rows ∷ []), length-drop 1 (groups [] rows))

on_line-ok : {A : Type 0} (n : ℕ) (r : Result A ScriptKind) (x : A) → on_line n r ≡ Ok x → r ≡ Ok x
on_line-ok n (Ok y) x e = cc
on_line-ok n (Err k) x e = absurd (cc)

next-line : (version n : ℕ) (before : List Row) (ws : List (List ℕ)) (o : Option Row) → row_of_line version n (standing before) ws ≡ Ok o → Fits version before → Fits version (before ++ option_to_list o)
next-line version n before ws None e f = subst (λ (l : List Row). Fits version l) (sym (append-nil before)) f
next-line version n before ws (Some r) e f =
    fits-next version before r f (not_ended version n (standing before) ws r e) (next version before r f (checked version n (standing before) ws r e))

pub rows-fit : (version n : ℕ) (before : List Row) (rest : List (List ℕ)) (rows : List Row) → Fits version before → rows_of version n before rest ≡ Ok rows → Fits version rows
unfolding rows_of
rows-fit version n before [] rows f e = let same : before ≡ rows = cc in subst (λ (l : List Row). Fits version l) same f
rows-fit version n before (line ∷ rest) rows f e =
    let o = bind-ok (on_line n (row_of_line version n (standing before) (words line))) (λ row. rows_of version (n + 1) (before ++ option_to_list row) rest) rows e in
    let r = on_line-ok n (row_of_line version n (standing before) (words line)) o.0 o.1 in
    rows-fit version (n + 1) (before ++ option_to_list o.0) rest rows (next-line version n before (words line) o.0 r f) o.2

pub all-fit : (version : ℕ) (rest : List (List ℕ)) (rows : List Row) → rows_of version 2 [] rest ≡ Ok rows → Fits version rows
all-fit version rest rows e = rows-fit version 2 [] rest rows (fits-nil version) e
