-- Edits that fit have no fault, and turns have the boxes of their items in order.
use Rattle.std.proofs.Common.{◌≡◌, ◌≢◌, ℕ, Bool, true, false, not, List, [], ◌∷◌, ◌++◌, length, map, Option, Some, None, refl, sym, ap, ◌∙◌, subst, arith, length-append, append_assoc, max}
use Rattle.std.specs.Prelude.{◌==◌, ◌&&◌, IsSome}
use Rattle.std.specs.Option.{is_some}
use Rattle.std.proofs.lemmas.Bool.{lt-ltb, eqb-true}
use Rattle.std.proofs.lemmas.List.{map-append}
use Rattle.mesh_base.specs.Place.{Area}
use Rattle.mesh_base.specs.Mesh.{MeshView, Corners, corners_of, AreDifferent, IsWithin}
use Rattle.mesh_base.specs.Edit.{cell_at, EditFits}
use Rattle.mesh_base.specs.declared.edit.Edit.{Edit}
use Rattle.mesh_base.specs.declared.edit.Edit.TheVariants as edit
use Rattle.run_script.specs.declared.script.Item.{Item}
use Rattle.run_script.specs.declared.script.Item.TheVariants as item
use Rattle.run_script.specs.Scripts.{HoldsClose}
use Rattle.run_script.specs.Jobs.{turns, turns_from, has_points, are_different, edit_fault}
use Rattle.run_script.specs.Asks.{greatest_wait, asks_after, asks_of, boxes_of}
use Rattle.run_script.proofs.CheckLemmas.{remove-none, split-none}

-- ---- edits

some-true : {A : Type 0} (o : Option A) → IsSome o → is_some o ≡ true
some-true None e = e
some-true (Some x) e = refl

and-true : (a b : Bool) → a ≡ true → b ≡ true → (a && b) ≡ true
and-true true b e f = f
and-true false b e f = e

not-equal : (a b : ℕ) → a ≢ b → not (a == b) ≡ true
not-equal a b ne = by (a == b) refl
  where
    by : (c : Bool) → (a == b) ≡ c → not c ≡ true
    by true e = absurd (ne (eqb-true a b e))
    by false e = refl

points-there : (n : ℕ) (c : Corners) → IsWithin n c → has_points n c ≡ true
points-there n c w =
    and-true _ _ (lt-ltb _ _ w.0) (and-true _ _ (lt-ltb _ _ w.1) (and-true _ _ (lt-ltb _ _ w.2) (lt-ltb _ _ w.3)))

corners-differ : (c : Corners) → AreDifferent c → are_different c ≡ true
corners-differ c d =
    and-true _ _ (not-equal _ _ d.0) (and-true _ _ (not-equal _ _ d.1) (and-true _ _ (not-equal _ _ d.2) (and-true _ _ (not-equal _ _ d.3) (and-true _ _ (not-equal _ _ d.4) (not-equal _ _ d.5)))))

pub fits-unfaulted : (mesh : MeshView) (e : Edit) → EditFits mesh e → edit_fault mesh e ≡ None
unfolding edit_fault
fits-unfaulted mesh (edit.Point at) f = rw (lt-ltb _ _ f) refl
fits-unfaulted mesh (edit.Add corners) f =
    rw (points-there (length mesh.points) (corners_of corners) f.0, corners-differ (corners_of corners) f.1, lt-ltb _ _ f.2) refl
fits-unfaulted mesh (edit.Remove i) f = remove-none mesh i (some-true (cell_at mesh.cells i) f)
fits-unfaulted mesh (edit.Split i at) f = split-none mesh i at (some-true (cell_at mesh.cells i) f.0) f.1 f.2

-- ---- turns

abbrev hold_len : Option (List Area) → Option ℕ
hold_len None = None
hold_len (Some areas) = Some (length areas)

-- the boxes of the hold that is open
abbrev held : Option (List Area) → List Area
held None = []
held (Some areas) = areas

abbrev with_need : ℕ → List Area → List (ℕ × Area)
with_need need areas = map (λ area. (need, area)) areas

wait-more : (before : List Item) (line step : ℕ) → greatest_wait (before ++ item.Wait line step ∷ []) ≡ max (greatest_wait before) step
wait-more [] line step = omega arith
wait-more (item.Wait l s ∷ xs) line step = let more = wait-more xs line step in omega arith
wait-more (item.Ask area ∷ xs) line step = wait-more xs line step
wait-more (item.Hold ∷ xs) line step = wait-more xs line step
wait-more (item.Free ∷ xs) line step = wait-more xs line step

ask-more : (before : List Item) (area : Area) → greatest_wait (before ++ item.Ask area ∷ []) ≡ greatest_wait before
ask-more [] area = refl
ask-more (item.Wait l s ∷ xs) area = ap (max s) (ask-more xs area)
ask-more (item.Ask a ∷ xs) area = ask-more xs area
ask-more (item.Hold ∷ xs) area = ask-more xs area
ask-more (item.Free ∷ xs) area = ask-more xs area

hold-more : (before : List Item) → greatest_wait (before ++ item.Hold ∷ []) ≡ greatest_wait before
hold-more [] = refl
hold-more (item.Wait l s ∷ xs) = ap (max s) (hold-more xs)
hold-more (item.Ask a ∷ xs) = hold-more xs
hold-more (item.Hold ∷ xs) = hold-more xs
hold-more (item.Free ∷ xs) = hold-more xs

free-more : (before : List Item) → greatest_wait (before ++ item.Free ∷ []) ≡ greatest_wait before
free-more [] = refl
free-more (item.Wait l s ∷ xs) = ap (max s) (free-more xs)
free-more (item.Ask a ∷ xs) = free-more xs
free-more (item.Hold ∷ xs) = free-more xs
free-more (item.Free ∷ xs) = free-more xs

-- the boxes of the open hold, and then those of the items
in-order : (need : ℕ) (hold : Option (List Area)) (before items : List Item) → need ≡ greatest_wait before → HoldsClose (hold_len hold) items
    → boxes_of (turns_from need hold items) ≡ with_need need (held hold) ++ asks_after before items
in-order need None before [] e h = refl
in-order need (Some areas) before [] e h = absurd h
in-order need None before (item.Wait line step ∷ items) e h =
    in-order (max need step) None (before ++ item.Wait line step ∷ []) items (ap (λ n. max n step) e ∙ sym (wait-more before line step)) h
in-order need (Some areas) before (item.Wait line step ∷ items) e h = absurd h
in-order need None before (item.Ask area ∷ items) e h =
    ap (λ l. (need, area) ∷ l) (in-order need None (before ++ item.Ask area ∷ []) items (e ∙ sym (ask-more before area)) h)
    ∙ ap (λ (n : ℕ). (n, area) ∷ asks_after (before ++ item.Ask area ∷ []) items) e
in-order need (Some areas) before (item.Ask area ∷ items) e h =
    let more = length-append areas (area ∷ []) in
    in-order need (Some (areas ++ area ∷ [])) (before ++ item.Ask area ∷ []) items (e ∙ sym (ask-more before area)) (subst (λ (n : ℕ). HoldsClose (Some n) items) (sym more) h)
    ∙ (ap (λ l. l ++ asks_after (before ++ item.Ask area ∷ []) items) (map-append (λ (a : Area). (need, a)) areas (area ∷ []))
    ∙ (append_assoc (with_need need areas) ((need, area) ∷ []) (asks_after (before ++ item.Ask area ∷ []) items)
    ∙ ap (λ (n : ℕ). with_need need areas ++ (n, area) ∷ asks_after (before ++ item.Ask area ∷ []) items) e))
in-order need None before (item.Hold ∷ items) e h = in-order need (Some []) (before ++ item.Hold ∷ []) items (e ∙ sym (hold-more before)) h
in-order need (Some areas) before (item.Hold ∷ items) e h = absurd h
in-order need None before (item.Free ∷ items) e h = absurd h
in-order need (Some areas) before (item.Free ∷ items) e h =
    ap (λ l. with_need need areas ++ l) (in-order need None (before ++ item.Free ∷ []) items (e ∙ sym (free-more before)) h.1)

pub boxes-in-order : (items : List Item) → HoldsClose None items → boxes_of (turns items) ≡ asks_of items
boxes-in-order items h = in-order 0 None [] items refl h
