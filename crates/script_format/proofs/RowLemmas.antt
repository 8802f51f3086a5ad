-- What rows amount to with one more.
use Rattle.std.proofs.Common.{◌≡◌, ℕ, ◌+◌, Bool, true, false, cond, List, [], ◌∷◌, ◌++◌, length, Option, Some, None, refl, sym, ap, ◌∙◌, arith, add-zero, length-append}
use Rattle.std.specs.Prelude.{nat_lt, count_by, ◌||◌}
use Rattle.std.specs.List.{list_any}
use Rattle.std.specs.Option.{option_map}
use Rattle.std.proofs.lemmas.List.Sums.{sum_by-append}
use Rattle.std.proofs.lemmas.List.Folds.{list_any-append}
use Rattle.std.proofs.lemmas.Bool.{lt-ltb}
use Rattle.run_script.specs.declared.script.LinedEdit.{LinedEdit}
use Rattle.run_script.specs.declared.script.Plan.{Plan}
use Rattle.run_script.specs.declared.script.Item.{Item}
use Rattle.run_script.specs.declared.script.Item.TheVariants as item
use Rattle.script_format.specs.declared.row.Row.{Row}
use Rattle.script_format.specs.declared.row.Row.TheVariants as row
use Rattle.script_format.specs.declared.row.Standing.{Standing}
use Rattle.script_format.specs.Rows.{is_edit, is_move, is_session, is_box, is_end, plans, waiting, groups, held, items, standing}
use Rattle.script_format.specs.Reading.{with_row, closed, opened, Stands}
use Rattle.script_format.specs.declared.reading.Reading.{Reading}
use Rattle.mesh_base.specs.declared.edit.Kernel.{Kernel}
use Rattle.std.proofs.lemmas.List.{append-nil}

-- ---- one more row at the end

pub waiting-append : (es : List LinedEdit) (xs ys : List Row) → waiting es (xs ++ ys) ≡ waiting (waiting es xs) ys
waiting-append es [] ys = refl
waiting-append es (row.Edit e ∷ xs) ys = waiting-append (es ++ e ∷ []) xs ys
waiting-append es (row.Move k ∷ xs) ys = waiting-append [] xs ys
waiting-append es (row.Session ∷ xs) ys = waiting-append es xs ys
waiting-append es (row.Does i ∷ xs) ys = waiting-append es xs ys
waiting-append es (row.End ∷ xs) ys = waiting-append es xs ys

pub plans-append : (es : List LinedEdit) (xs ys : List Row) → plans es (xs ++ ys) ≡ plans es xs ++ plans (waiting es xs) ys
plans-append es [] ys = refl
plans-append es (row.Edit e ∷ xs) ys = plans-append (es ++ e ∷ []) xs ys
plans-append es (row.Move k ∷ xs) ys = ap (λ ps. record { edits = es; kernel = k } ∷ ps) (plans-append [] xs ys)
plans-append es (row.Session ∷ xs) ys = plans-append es xs ys
plans-append es (row.Does i ∷ xs) ys = plans-append es xs ys
plans-append es (row.End ∷ xs) ys = plans-append es xs ys

pub opened-append : (its : List Item) (xs ys : List Row) → opened its (xs ++ ys) ≡ opened (opened its xs) ys
opened-append its [] ys = refl
opened-append its (row.Edit e ∷ xs) ys = opened-append its xs ys
opened-append its (row.Move k ∷ xs) ys = opened-append its xs ys
opened-append its (row.Session ∷ xs) ys = opened-append [] xs ys
opened-append its (row.Does i ∷ xs) ys = opened-append (its ++ i ∷ []) xs ys
opened-append its (row.End ∷ xs) ys = opened-append its xs ys

pub closed-append : (its : List Item) (xs ys : List Row) → closed its (xs ++ ys) ≡ closed its xs ++ closed (opened its xs) ys
closed-append its [] ys = refl
closed-append its (row.Edit e ∷ xs) ys = closed-append its xs ys
closed-append its (row.Move k ∷ xs) ys = closed-append its xs ys
closed-append its (row.Session ∷ xs) ys = ap (λ gs. its ∷ gs) (closed-append [] xs ys)
closed-append its (row.Does i ∷ xs) ys = closed-append (its ++ i ∷ []) xs ys
closed-append its (row.End ∷ xs) ys = closed-append its xs ys

pub groups-are : (its : List Item) (rows : List Row) → groups its rows ≡ closed its rows ++ opened its rows ∷ []
groups-are its [] = refl
groups-are its (row.Edit e ∷ xs) = groups-are its xs
groups-are its (row.Move k ∷ xs) = groups-are its xs
groups-are its (row.Session ∷ xs) = ap (λ gs. its ∷ gs) (groups-are [] xs)
groups-are its (row.Does i ∷ xs) = groups-are (its ++ i ∷ []) xs
groups-are its (row.End ∷ xs) = groups-are its xs

pub items-append : (xs ys : List Row) → items (xs ++ ys) ≡ items xs ++ items ys
items-append [] ys = refl
items-append (row.Edit e ∷ xs) ys = items-append xs ys
items-append (row.Move k ∷ xs) ys = items-append xs ys
items-append (row.Session ∷ xs) ys = items-append xs ys
items-append (row.Does i ∷ xs) ys = ap (λ its. i ∷ its) (items-append xs ys)
items-append (row.End ∷ xs) ys = items-append xs ys

pub held-append : (h : Option ℕ) (xs ys : List Item) → held h (xs ++ ys) ≡ held (held h xs) ys
held-append h [] ys = refl
held-append h (item.Wait line step ∷ xs) ys = held-append h xs ys
held-append h (item.Ask area ∷ xs) ys = held-append (option_map (λ n. n + 1) h) xs ys
held-append h (item.Hold ∷ xs) ys = held-append (Some 0) xs ys
held-append h (item.Free ∷ xs) ys = held-append None xs ys

-- ---- counts and tests

pub count-more : (p : Row → Bool) (xs : List Row) (r : Row) → p r ≡ true → count_by p (xs ++ r ∷ []) ≡ count_by p xs + 1
count-more p xs r e = sum_by-append (λ x. cond (p x) 1 0) xs (r ∷ []) ∙ ap (λ (b : Bool). count_by p xs + (0 + cond b 1 0)) e

pub count-same : (p : Row → Bool) (xs : List Row) (r : Row) → p r ≡ false → count_by p (xs ++ r ∷ []) ≡ count_by p xs
count-same p xs r e = sum_by-append (λ x. cond (p x) 1 0) xs (r ∷ []) ∙ (ap (λ (b : Bool). count_by p xs + (0 + cond b 1 0)) e ∙ add-zero (count_by p xs))

or-false : (b : Bool) → (b || false) ≡ b
or-false true = refl
or-false false = refl

or-true : (b : Bool) → (b || true) ≡ true
or-true true = refl
or-true false = refl

pub any-more : (p : Row → Bool) (xs : List Row) (r : Row) → p r ≡ true → list_any p (xs ++ r ∷ []) ≡ true
any-more p xs r e = list_any-append p xs (r ∷ []) ∙ (ap (λ (b : Bool). list_any p xs || (b || false)) e ∙ or-true (list_any p xs))

pub any-same : (p : Row → Bool) (xs : List Row) (r : Row) → p r ≡ false → list_any p (xs ++ r ∷ []) ≡ list_any p xs
any-same p xs r e = list_any-append p xs (r ∷ []) ∙ (ap (λ (b : Bool). list_any p xs || (b || false)) e ∙ or-false (list_any p xs))

-- ---- what rows amount to

abbrev made : Bool → Bool → Option ℕ → Bool → ℕ → ℕ → ℕ → ℕ → Standing
made a b h e k l m n = record { in_sessions = a; edits_wait = b; hold = h; has_ended = e; steps = k; edits = l; sessions = m; boxes = n }

same_made : (a a2 b b2 : Bool) (h h2 : Option ℕ) (e e2 : Bool) (k k2 l l2 m m2 n n2 : ℕ)
    → a ≡ a2 → b ≡ b2 → h ≡ h2 → e ≡ e2 → k ≡ k2 → l ≡ l2 → m ≡ m2 → n ≡ n2 → made a b h e k l m n ≡ made a2 b2 h2 e2 k2 l2 m2 n2
same_made a a2 b b2 h h2 e e2 k k2 l l2 m m2 n n2 p1 p2 p3 p4 p5 p6 p7 p8 = cc

same_standing : (s t : Standing) → s.in_sessions ≡ t.in_sessions → s.edits_wait ≡ t.edits_wait → s.hold ≡ t.hold → s.has_ended ≡ t.has_ended
    → s.steps ≡ t.steps → s.edits ≡ t.edits → s.sessions ≡ t.sessions → s.boxes ≡ t.boxes → s ≡ t
same_standing s t = same_made s.in_sessions t.in_sessions s.edits_wait t.edits_wait s.hold t.hold s.has_ended t.has_ended s.steps t.steps s.edits t.edits s.sessions t.sessions s.boxes t.boxes

wait-more : (es : List LinedEdit) (e : LinedEdit) → nat_lt 0 (length (es ++ e ∷ [])) ≡ true
wait-more es e = lt-ltb _ _ (omega (arith, length-append es (e ∷ [])))

waits : (rows : List Row) (r : Row) → nat_lt 0 (length (waiting [] (rows ++ r ∷ []))) ≡ nat_lt 0 (length (waiting (waiting [] rows) (r ∷ [])))
waits rows r = ap (λ (es : List LinedEdit). nat_lt 0 (length es)) (waiting-append [] rows (r ∷ []))

holds : (rows : List Row) (r : Row) → held None (items (rows ++ r ∷ [])) ≡ held (held None (items rows)) (items (r ∷ []))
holds rows r = ap (held None) (items-append rows (r ∷ [])) ∙ held-append None (items rows) (items (r ∷ []))

pub standing-row : (rows : List Row) (r : Row) → standing (rows ++ r ∷ []) ≡ with_row r (standing rows)
standing-row rows (row.Edit e) =
    same_standing (standing (rows ++ row.Edit e ∷ [])) (with_row (row.Edit e) (standing rows))
    (any-same is_session rows (row.Edit e) refl) (waits rows (row.Edit e) ∙ wait-more (waiting [] rows) e) (holds rows (row.Edit e)) (any-same is_end rows (row.Edit e) refl)
    (count-same is_move rows (row.Edit e) refl) (count-more is_edit rows (row.Edit e) refl) (count-same is_session rows (row.Edit e) refl) (count-same is_box rows (row.Edit e) refl)
standing-row rows (row.Move k) =
    same_standing (standing (rows ++ row.Move k ∷ [])) (with_row (row.Move k) (standing rows))
    (any-same is_session rows (row.Move k) refl) (waits rows (row.Move k)) (holds rows (row.Move k)) (any-same is_end rows (row.Move k) refl)
    (count-more is_move rows (row.Move k) refl) (count-same is_edit rows (row.Move k) refl) (count-same is_session rows (row.Move k) refl) (count-same is_box rows (row.Move k) refl)
standing-row rows row.Session =
    same_standing (standing (rows ++ row.Session ∷ [])) (with_row row.Session (standing rows))
    (any-more is_session rows row.Session refl) (waits rows row.Session) (holds rows row.Session) (any-same is_end rows row.Session refl)
    (count-same is_move rows row.Session refl) (count-same is_edit rows row.Session refl) (count-more is_session rows row.Session refl) (count-same is_box rows row.Session refl)
standing-row rows row.End =
    same_standing (standing (rows ++ row.End ∷ [])) (with_row row.End (standing rows))
    (any-same is_session rows row.End refl) (waits rows row.End) (holds rows row.End) (any-more is_end rows row.End refl)
    (count-same is_move rows row.End refl) (count-same is_edit rows row.End refl) (count-same is_session rows row.End refl) (count-same is_box rows row.End refl)
standing-row rows (row.Does (item.Wait l k)) =
    same_standing (standing (rows ++ row.Does (item.Wait l k) ∷ [])) (standing rows)
    (any-same is_session rows (row.Does (item.Wait l k)) refl) (waits rows (row.Does (item.Wait l k))) (holds rows (row.Does (item.Wait l k))) (any-same is_end rows (row.Does (item.Wait l k)) refl)
    (count-same is_move rows (row.Does (item.Wait l k)) refl) (count-same is_edit rows (row.Does (item.Wait l k)) refl) (count-same is_session rows (row.Does (item.Wait l k)) refl) (count-same is_box rows (row.Does (item.Wait l k)) refl)
standing-row rows (row.Does (item.Ask a)) =
    same_standing (standing (rows ++ row.Does (item.Ask a) ∷ [])) (with_row (row.Does (item.Ask a)) (standing rows))
    (any-same is_session rows (row.Does (item.Ask a)) refl) (waits rows (row.Does (item.Ask a))) (holds rows (row.Does (item.Ask a))) (any-same is_end rows (row.Does (item.Ask a)) refl)
    (count-same is_move rows (row.Does (item.Ask a)) refl) (count-same is_edit rows (row.Does (item.Ask a)) refl) (count-same is_session rows (row.Does (item.Ask a)) refl) (count-more is_box rows (row.Does (item.Ask a)) refl)
standing-row rows (row.Does item.Hold) =
    same_standing (standing (rows ++ row.Does item.Hold ∷ [])) (with_row (row.Does item.Hold) (standing rows))
    (any-same is_session rows (row.Does item.Hold) refl) (waits rows (row.Does item.Hold)) (holds rows (row.Does item.Hold)) (any-same is_end rows (row.Does item.Hold) refl)
    (count-same is_move rows (row.Does item.Hold) refl) (count-same is_edit rows (row.Does item.Hold) refl) (count-same is_session rows (row.Does item.Hold) refl) (count-same is_box rows (row.Does item.Hold) refl)
standing-row rows (row.Does item.Free) =
    same_standing (standing (rows ++ row.Does item.Free ∷ [])) (with_row (row.Does item.Free) (standing rows))
    (any-same is_session rows (row.Does item.Free) refl) (waits rows (row.Does item.Free)) (holds rows (row.Does item.Free)) (any-same is_end rows (row.Does item.Free) refl)
    (count-same is_move rows (row.Does item.Free) refl) (count-same is_edit rows (row.Does item.Free) refl) (count-same is_session rows (row.Does item.Free) refl) (count-same is_box rows (row.Does item.Free) refl)

-- ---- a reader that takes one more row

module _ (before : List Row) (old new : Reading) (s : Stands before old) where
  pub stands-edit : (e : LinedEdit) → new.standing ≡ with_row (row.Edit e) old.standing → new.plans.items ≡ old.plans.items → new.edits.items ≡ old.edits.items ++ e ∷ []
      → new.groups.items ≡ old.groups.items → new.items.items ≡ old.items.items → Stands (before ++ row.Edit e ∷ []) new
  stands-edit e at p es g i = record {
    standing = at ∙ (ap (with_row (row.Edit e)) s.standing ∙ sym (standing-row before (row.Edit e)));
    plans = p ∙ (s.plans ∙ (sym (append-nil (plans [] before)) ∙ sym (plans-append [] before (row.Edit e ∷ []))));
    edits = es ∙ (ap (λ (l : List LinedEdit). l ++ e ∷ []) s.edits ∙ sym (waiting-append [] before (row.Edit e ∷ [])));
    groups = g ∙ (s.groups ∙ (sym (append-nil (closed [] before)) ∙ sym (closed-append [] before (row.Edit e ∷ []))));
    items = i ∙ (s.items ∙ sym (opened-append [] before (row.Edit e ∷ [])));
  }

  pub stands-move : (k : Kernel) → new.standing ≡ with_row (row.Move k) old.standing → new.plans.items ≡ old.plans.items ++ record { edits = old.edits.items; kernel = k } ∷ [] → new.edits.items ≡ []
      → new.groups.items ≡ old.groups.items → new.items.items ≡ old.items.items → Stands (before ++ row.Move k ∷ []) new
  stands-move k at p es g i = record {
    standing = at ∙ (ap (with_row (row.Move k)) s.standing ∙ sym (standing-row before (row.Move k)));
    plans = p ∙ (added ∙ sym (plans-append [] before (row.Move k ∷ [])));
    edits = es ∙ sym (waiting-append [] before (row.Move k ∷ []));
    groups = g ∙ (s.groups ∙ (sym (append-nil (closed [] before)) ∙ sym (closed-append [] before (row.Move k ∷ []))));
    items = i ∙ (s.items ∙ sym (opened-append [] before (row.Move k ∷ [])));
  }
    where
      added : old.plans.items ++ record { edits = old.edits.items; kernel = k } ∷ [] ≡ plans [] before ++ record { edits = waiting [] before; kernel = k } ∷ []
      added = ap (λ (l : List Plan). l ++ record { edits = old.edits.items; kernel = k } ∷ []) s.plans ∙ ap (λ (l : List LinedEdit). plans [] before ++ record { edits = l; kernel = k } ∷ []) s.edits

  pub stands-session : new.standing ≡ with_row row.Session old.standing → new.plans.items ≡ old.plans.items → new.edits.items ≡ old.edits.items
      → new.groups.items ≡ old.groups.items ++ old.items.items ∷ [] → new.items.items ≡ [] → Stands (before ++ row.Session ∷ []) new
  stands-session at p es g i = record {
    standing = at ∙ (ap (with_row row.Session) s.standing ∙ sym (standing-row before row.Session));
    plans = p ∙ (s.plans ∙ (sym (append-nil (plans [] before)) ∙ sym (plans-append [] before (row.Session ∷ []))));
    edits = es ∙ (s.edits ∙ sym (waiting-append [] before (row.Session ∷ [])));
    groups = g ∙ ((ap (λ (l : List (List Item)). l ++ old.items.items ∷ []) s.groups ∙ ap (λ (l : List Item). closed [] before ++ l ∷ []) s.items) ∙ sym (closed-append [] before (row.Session ∷ [])));
    items = i ∙ sym (opened-append [] before (row.Session ∷ []));
  }

  pub stands-item : (it : Item) → new.standing ≡ with_row (row.Does it) old.standing → new.plans.items ≡ old.plans.items → new.edits.items ≡ old.edits.items
      → new.groups.items ≡ old.groups.items → new.items.items ≡ old.items.items ++ it ∷ [] → Stands (before ++ row.Does it ∷ []) new
  stands-item it at p es g i = record {
    standing = at ∙ (ap (with_row (row.Does it)) s.standing ∙ sym (standing-row before (row.Does it)));
    plans = p ∙ (s.plans ∙ (sym (append-nil (plans [] before)) ∙ sym (plans-append [] before (row.Does it ∷ []))));
    edits = es ∙ (s.edits ∙ sym (waiting-append [] before (row.Does it ∷ [])));
    groups = g ∙ (s.groups ∙ (sym (append-nil (closed [] before)) ∙ sym (closed-append [] before (row.Does it ∷ []))));
    items = i ∙ (ap (λ (l : List Item). l ++ it ∷ []) s.items ∙ sym (opened-append [] before (row.Does it ∷ [])));
  }

  pub stands-end : new.standing ≡ with_row row.End old.standing → new.plans.items ≡ old.plans.items → new.edits.items ≡ old.edits.items
      → new.groups.items ≡ old.groups.items → new.items.items ≡ old.items.items → Stands (before ++ row.End ∷ []) new
  stands-end at p es g i = record {
    standing = at ∙ (ap (with_row row.End) s.standing ∙ sym (standing-row before row.End));
    plans = p ∙ (s.plans ∙ (sym (append-nil (plans [] before)) ∙ sym (plans-append [] before (row.End ∷ []))));
    edits = es ∙ (s.edits ∙ sym (waiting-append [] before (row.End ∷ [])));
    groups = g ∙ (s.groups ∙ (sym (append-nil (closed [] before)) ∙ sym (closed-append [] before (row.End ∷ []))));
    items = i ∙ (s.items ∙ sym (opened-append [] before (row.End ∷ [])));
  }
