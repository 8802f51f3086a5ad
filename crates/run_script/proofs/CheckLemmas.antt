-- The first fault of edits and of waits, list by list.
use Rattle.std.proofs.Common.{◌≡◌, ℕ, ◌+◌, ◌<◌, ◌≤◌, Bool, true, false, cond, List, [], ◌∷◌, ◌++◌, length, take, drop, get_or, set, map, Option, Some, None, Ok, refl, sym, ap, ◌∙◌, subst, append_assoc, length-append}
use Rattle.std.specs.Prelude.{nat_le}
use Rattle.std.specs.Option.{is_some, option_map_or}
use Rattle.std.proofs.lemmas.List.{append-nil, map-append, map-set, take_more, take-append-drop}
use Rattle.std.proofs.lemmas.Bool.{lt-ltb, le-leb}
use Rattle.std.proofs.lemmas.List.Concat.{flat_map-append}
use Rattle.mesh_base.specs.Mesh.{MeshView, Corners}
use Rattle.mesh_base.specs.Place.{Place}
use Rattle.mesh_base.specs.Edit.{cell_at, quarters, split_cells, edited}
use Rattle.mesh_base.specs.declared.edit.Edit.TheVariants as edit
use Rattle.run_script.specs.declared.check.Tally.{Tally}
use Rattle.run_script.specs.declared.fault.ScriptFault.{ScriptFault}
use Rattle.run_script.specs.declared.fault.ScriptFault.TheVariants as errors
use Rattle.run_script.specs.declared.fault.ScriptKind.TheVariants as kinds
use Rattle.run_script.specs.declared.script.LinedEdit.{LinedEdit}
use Rattle.run_script.specs.declared.script.Plan.{Plan}
use Rattle.run_script.specs.declared.script.Item.{Item}
use Rattle.run_script.specs.declared.script.Item.TheVariants as item
use Rattle.run_script.specs.Faults.{Fault, fault}
use Rattle.run_script.specs.Jobs.{edit_fault, edits_fault, all_edited, or_else, fault_on, edits_of, items_of, wait_fault}
use Rattle.run_script.specs.Checking.{Matches, FaultsWith, TakesEdit, TakesEdits}

-- ---- single edits

pub removed : (mesh : MeshView) (old new : Tally) (i : ℕ) → Matches mesh old → new.points ≡ old.points → new.live.items ≡ set old.live.items i false → Matches (edited mesh (edit.Remove i)) new
removed mesh old new i m p l = record {
  points = p ∙ m.points;
  live = l ∙ (ap (λ (xs : List Bool). set xs i false) m.live ∙ sym (map-set is_some mesh.cells i None));
}

some-of : {A : Type 0} (o : Option A) → is_some o ≡ true → (x : A) × (o ≡ Some x)
some-of None e = absurd (cc)
some-of (Some x) e = (x, refl)

pub split : (mesh : MeshView) (old new : Tally) (i : ℕ) (at : Place) → Matches mesh old → is_some (cell_at mesh.cells i) ≡ true → new.points ≡ old.points + 1
    → new.live.items ≡ set old.live.items i false ++ (true ∷ true ∷ true ∷ true ∷ []) → Matches (edited mesh (edit.Split i at)) new
split mesh old new i at m live p l = record { points = p ∙ (ap (λ (n : ℕ). n + 1) m.points ∙ sym (length-append mesh.points (at ∷ []))); live = l ∙ cells }
  where
    cells : set old.live.items i false ++ (true ∷ true ∷ true ∷ true ∷ []) ≡ map is_some (option_map_or (split_cells mesh.cells (length mesh.points) i) (cell_at mesh.cells i) mesh.cells)
    cells =
        let c = some-of (cell_at mesh.cells i) live in
        ap (λ (xs : List Bool). set xs i false ++ (true ∷ true ∷ true ∷ true ∷ [])) m.live
        ∙ (ap (λ (xs : List Bool). xs ++ (true ∷ true ∷ true ∷ true ∷ [])) (sym (map-set is_some mesh.cells i None))
        ∙ (sym (map-append is_some (set mesh.cells i None) (quarters (length mesh.points) c.0))
        ∙ ap (λ (o : Option Corners). map is_some (option_map_or (split_cells mesh.cells (length mesh.points) i) o mesh.cells)) (sym c.1)))

-- ---- lists of edits

pub all_edited-append : (mesh : MeshView) (xs ys : List LinedEdit) → all_edited mesh (xs ++ ys) ≡ all_edited (all_edited mesh xs) ys
all_edited-append mesh [] ys = refl
all_edited-append mesh (x ∷ xs) ys = all_edited-append (edited mesh x.edit) xs ys

pub or_else-none : {A : Type 0} (a b : Option A) → or_else a b ≡ None → (a ≡ None) × (b ≡ None)
or_else-none None b e = (refl, e)
or_else-none (Some x) b e = absurd (cc)

or_else-assoc : {A : Type 0} (a b c : Option A) → or_else a (or_else b c) ≡ or_else (or_else a b) c
or_else-assoc None b c = refl
or_else-assoc (Some x) b c = refl

pub edits_fault-append : (mesh : MeshView) (xs ys : List LinedEdit) → edits_fault mesh (xs ++ ys) ≡ or_else (edits_fault mesh xs) (edits_fault (all_edited mesh xs) ys)
unfolding edits_fault
edits_fault-append mesh [] ys = refl
edits_fault-append mesh (x ∷ xs) ys =
    ap (or_else (fault_on x.line (edit_fault mesh x.edit))) (edits_fault-append (edited mesh x.edit) xs ys)
    ∙ or_else-assoc (fault_on x.line (edit_fault mesh x.edit)) (edits_fault (edited mesh x.edit) xs) (edits_fault (all_edited (edited mesh x.edit) xs) ys)

-- these edits were made, and left this
pub record Made (mesh : MeshView) (edits : List LinedEdit) (tally : Tally) : Type 0 where
  pub none : edits_fault mesh edits ≡ None
  pub matches : Matches (all_edited mesh edits) tally

pub made-none : (mesh : MeshView) (tally : Tally) → Matches mesh tally → Made mesh [] tally
unfolding edits_fault
made-none mesh tally m = record { none = refl; matches = m }

pub made-more : (mesh : MeshView) (xs ys : List LinedEdit) (old new : Tally) (done : Unit {0}) → Made mesh xs old → TakesEdits (all_edited mesh xs) ys (Ok done) new → Made mesh (xs ++ ys) new
made-more mesh xs ys old new done m t = record {
  none = edits_fault-append mesh xs ys ∙ (ap (λ (o : Option Fault). or_else o (edits_fault (all_edited mesh xs) ys)) m.none ∙ t.0);
  matches = subst (λ (v : MeshView). Matches v new) (sym (all_edited-append mesh xs ys)) t.1;
}

faults-or : (e : ScriptFault) (o later : Option Fault) → FaultsWith e o → FaultsWith e (or_else o later)
faults-or errors.NoMemory o later f = tt
faults-or (errors.Bad kind line) o later f = rw f refl

pub made-fault : (mesh : MeshView) (xs ys zs : List LinedEdit) (old : Tally) (e : ScriptFault) → Made mesh xs old → FaultsWith e (edits_fault (all_edited mesh xs) ys) → FaultsWith e (edits_fault mesh (xs ++ (ys ++ zs)))
made-fault mesh xs ys zs old e m f =
    subst (FaultsWith e) (
    sym (edits_fault-append mesh xs (ys ++ zs) ∙ (ap (λ (o : Option Fault). or_else o (edits_fault (all_edited mesh xs) (ys ++ zs))) m.none ∙ edits_fault-append (all_edited mesh xs) ys zs)))
    (faults-or e (edits_fault (all_edited mesh xs) ys) (edits_fault (all_edited (all_edited mesh xs) ys) zs) f)

one-fault : (mesh : MeshView) (x : LinedEdit) → edits_fault mesh (x ∷ []) ≡ fault_on x.line (edit_fault mesh x.edit)
unfolding edits_fault
one-fault mesh x = by (fault_on x.line (edit_fault mesh x.edit))
  where
    by : (o : Option Fault) → or_else o None ≡ o
    by None = refl
    by (Some f) = refl

pub takes-one : (mesh : MeshView) (x : LinedEdit) (done : Unit {0}) (new : Tally) → TakesEdit mesh x.line x.edit (Ok done) new → TakesEdits mesh (x ∷ []) (Ok done) new
takes-one mesh x done new t = (one-fault mesh x ∙ ap (fault_on x.line) t.0, t.1)

pub faults-one : (mesh : MeshView) (x : LinedEdit) (e : ScriptFault) → FaultsWith e (fault_on x.line (edit_fault mesh x.edit)) → FaultsWith e (edits_fault mesh (x ∷ []))
faults-one mesh x e f = subst (FaultsWith e) (sym (one-fault mesh x)) f

-- ---- waits

pub wait_fault-append : (steps : ℕ) (xs ys : List Item) → wait_fault steps (xs ++ ys) ≡ or_else (wait_fault steps xs) (wait_fault steps ys)
unfolding wait_fault
wait_fault-append steps [] ys = refl
wait_fault-append steps (item.Wait line step ∷ xs) ys = by (wait_fault-append steps xs ys) (nat_le step steps)
  where
    by : wait_fault steps (xs ++ ys) ≡ or_else (wait_fault steps xs) (wait_fault steps ys) → (b : Bool) → cond b (wait_fault steps (xs ++ ys)) (Some (fault kinds.NoStep line)) ≡ or_else (cond b (wait_fault steps xs) (Some (fault kinds.NoStep line))) (wait_fault steps ys)
    by e true = e
    by e false = refl
wait_fault-append steps (item.Ask area ∷ xs) ys = wait_fault-append steps xs ys
wait_fault-append steps (item.Hold ∷ xs) ys = wait_fault-append steps xs ys
wait_fault-append steps (item.Free ∷ xs) ys = wait_fault-append steps xs ys

-- ---- no fault

pub remove-none : (mesh : MeshView) (i : ℕ) → is_some (cell_at mesh.cells i) ≡ true → edit_fault mesh (edit.Remove i) ≡ None
unfolding edit_fault
remove-none mesh i e = rw e refl

pub split-none : (mesh : MeshView) (i : ℕ) (at : Place) → is_some (cell_at mesh.cells i) ≡ true → length mesh.points < 1000000 → length mesh.cells ≤ 3999996 → edit_fault mesh (edit.Split i at) ≡ None
unfolding edit_fault
split-none mesh i at e p q = rw (e, lt-ltb _ _ p, le-leb _ _ q) refl

-- ---- loops

up-to : {X : Type 0} (xs : List X) (i : ℕ) (x : X) → i < length xs → x ≡ get_or xs i x → take (i + 1) xs ≡ take i xs ++ x ∷ []
up-to xs i x lt is = take_more xs i x lt ∙ ap (λ y. take i xs ++ y ∷ []) (sym is)

around : {X : Type 0} (xs : List X) (i : ℕ) (x : X) → i < length xs → x ≡ get_or xs i x → xs ≡ take i xs ++ (x ∷ drop (i + 1) xs)
around xs i x lt is = sym (take-append-drop (i + 1) xs) ∙ (ap (λ front. front ++ drop (i + 1) xs) (up-to xs i x lt is) ∙ append_assoc (take i xs) (x ∷ []) (drop (i + 1) xs))

pub edits-more : (mesh : MeshView) (xs : List LinedEdit) (i : ℕ) (x : LinedEdit) (old new : Tally) (done : Unit {0}) → i < length xs → x ≡ get_or xs i x → Made mesh (take i xs) old
    → TakesEdit (all_edited mesh (take i xs)) x.line x.edit (Ok done) new → Made mesh (take (i + 1) xs) new
edits-more mesh xs i x old new done lt is m t =
    subst (λ (l : List LinedEdit). Made mesh l new) (sym (up-to xs i x lt is)) (made-more mesh (take i xs) (x ∷ []) old new done m (takes-one (all_edited mesh (take i xs)) x done new t))

pub edits-stop : (mesh : MeshView) (xs : List LinedEdit) (i : ℕ) (x : LinedEdit) (old : Tally) (e : ScriptFault) → i < length xs → x ≡ get_or xs i x → Made mesh (take i xs) old
    → FaultsWith e (fault_on x.line (edit_fault (all_edited mesh (take i xs)) x.edit)) → FaultsWith e (edits_fault mesh xs)
edits-stop mesh xs i x old e lt is m f =
    subst (λ (l : List LinedEdit). FaultsWith e (edits_fault mesh l)) (sym (around xs i x lt is))
    (made-fault mesh (take i xs) (x ∷ []) (drop (i + 1) xs) old e m (faults-one (all_edited mesh (take i xs)) x e f))

edits_of-more : (ps : List Plan) (i : ℕ) (p : Plan) → i < length ps → p ≡ get_or ps i p → edits_of (take (i + 1) ps) ≡ edits_of (take i ps) ++ p.edits
edits_of-more ps i p lt is =
    ap edits_of (up-to ps i p lt is) ∙ (flat_map-append (λ (p : Plan). p.edits) (take i ps) (p ∷ []) ∙ ap (λ (l : List LinedEdit). edits_of (take i ps) ++ l) (append-nil p.edits))

edits_of-around : (ps : List Plan) (i : ℕ) (p : Plan) → i < length ps → p ≡ get_or ps i p → edits_of ps ≡ edits_of (take i ps) ++ (p.edits ++ edits_of (drop (i + 1) ps))
edits_of-around ps i p lt is = ap edits_of (around ps i p lt is) ∙ flat_map-append (λ (p : Plan). p.edits) (take i ps) (p ∷ drop (i + 1) ps)

pub plans-more : (mesh : MeshView) (ps : List Plan) (i : ℕ) (p : Plan) (old new : Tally) (done : Unit {0}) → i < length ps → p ≡ get_or ps i p → Made mesh (edits_of (take i ps)) old
    → TakesEdits (all_edited mesh (edits_of (take i ps))) p.edits (Ok done) new → Made mesh (edits_of (take (i + 1) ps)) new
plans-more mesh ps i p old new done lt is m t =
    subst (λ (l : List LinedEdit). Made mesh l new) (sym (edits_of-more ps i p lt is)) (made-more mesh (edits_of (take i ps)) p.edits old new done m t)

pub plans-stop : (mesh : MeshView) (ps : List Plan) (i : ℕ) (p : Plan) (old : Tally) (e : ScriptFault) → i < length ps → p ≡ get_or ps i p → Made mesh (edits_of (take i ps)) old
    → FaultsWith e (edits_fault (all_edited mesh (edits_of (take i ps))) p.edits) → FaultsWith e (edits_fault mesh (edits_of ps))
plans-stop mesh ps i p old e lt is m f =
    subst (λ (l : List LinedEdit). FaultsWith e (edits_fault mesh l)) (sym (edits_of-around ps i p lt is)) (made-fault mesh (edits_of (take i ps)) p.edits (edits_of (drop (i + 1) ps)) old e m f)

waits-on : (steps : ℕ) (xs ys : List Item) → wait_fault steps xs ≡ None → wait_fault steps (xs ++ ys) ≡ wait_fault steps ys
waits-on steps xs ys e = wait_fault-append steps xs ys ∙ ap (λ (o : Option Fault). or_else o (wait_fault steps ys)) e

waits-in : (steps : ℕ) (xs ys zs : List Item) (e : ScriptFault) → wait_fault steps xs ≡ None → FaultsWith e (wait_fault steps ys) → FaultsWith e (wait_fault steps (xs ++ (ys ++ zs)))
waits-in steps xs ys zs e none f =
    subst (FaultsWith e) (sym (waits-on steps xs (ys ++ zs) none ∙ wait_fault-append steps ys zs)) (faults-or e (wait_fault steps ys) (wait_fault steps zs) f)

pub no_waits : (steps : ℕ) → wait_fault steps [] ≡ None
unfolding wait_fault
no_waits steps = refl

pub items-more : (steps : ℕ) (xs : List Item) (i : ℕ) (x : Item) → i < length xs → x ≡ get_or xs i x → wait_fault steps (take i xs) ≡ None → wait_fault steps (x ∷ []) ≡ None → wait_fault steps (take (i + 1) xs) ≡ None
items-more steps xs i x lt is none f = ap (wait_fault steps) (up-to xs i x lt is) ∙ (waits-on steps (take i xs) (x ∷ []) none ∙ f)

pub items-stop : (steps : ℕ) (xs : List Item) (i : ℕ) (x : Item) (e : ScriptFault) → i < length xs → x ≡ get_or xs i x → wait_fault steps (take i xs) ≡ None → FaultsWith e (wait_fault steps (x ∷ [])) → FaultsWith e (wait_fault steps xs)
items-stop steps xs i x e lt is none f =
    subst (λ (l : List Item). FaultsWith e (wait_fault steps l)) (sym (around xs i x lt is)) (waits-in steps (take i xs) (x ∷ []) (drop (i + 1) xs) e none f)

pub sessions-more : (steps : ℕ) (ss : List (List Item)) (i : ℕ) (s : List Item) → i < length ss → s ≡ get_or ss i s → wait_fault steps (items_of (take i ss)) ≡ None → wait_fault steps s ≡ None
    → wait_fault steps (items_of (take (i + 1) ss)) ≡ None
sessions-more steps ss i s lt is none f =
    ap (λ (l : List (List Item)). wait_fault steps (items_of l)) (up-to ss i s lt is)
    ∙ (ap (wait_fault steps) (flat_map-append (λ (s : List Item). s) (take i ss) (s ∷ []) ∙ ap (λ (l : List Item). items_of (take i ss) ++ l) (append-nil s))
    ∙ (waits-on steps (items_of (take i ss)) s none ∙ f))

pub sessions-stop : (steps : ℕ) (ss : List (List Item)) (i : ℕ) (s : List Item) (e : ScriptFault) → i < length ss → s ≡ get_or ss i s → wait_fault steps (items_of (take i ss)) ≡ None → FaultsWith e (wait_fault steps s)
    → FaultsWith e (wait_fault steps (items_of ss))
sessions-stop steps ss i s e lt is none f =
    subst (λ (l : List Item). FaultsWith e (wait_fault steps l)) (sym (ap items_of (around ss i s lt is) ∙ flat_map-append (λ (s : List Item). s) (take i ss) (s ∷ drop (i + 1) ss)))
    (waits-in steps (items_of (take i ss)) s (items_of (drop (i + 1) ss)) e none f)

-- the same with any default
pub edits_of-more-at : (ps : List Plan) (i : ℕ) → i < length ps → (d : Plan) → edits_of (take (i + 1) ps) ≡ edits_of (take i ps) ++ (get_or ps i d).edits
edits_of-more-at ps i lt d =
    ap edits_of (take_more ps i d lt) ∙ (flat_map-append (λ (p : Plan). p.edits) (take i ps) (get_or ps i d ∷ []) ∙ ap (λ (l : List LinedEdit). edits_of (take i ps) ++ l) (append-nil (get_or ps i d).edits))

pub edits_of-around-at : (ps : List Plan) (i : ℕ) → i < length ps → (d : Plan) → edits_of ps ≡ edits_of (take i ps) ++ ((get_or ps i d).edits ++ edits_of (drop (i + 1) ps))
edits_of-around-at ps i lt d =
    ap edits_of (sym (take-append-drop (i + 1) ps) ∙ (ap (λ (front : List Plan). front ++ drop (i + 1) ps) (take_more ps i d lt) ∙ append_assoc (take i ps) (get_or ps i d ∷ []) (drop (i + 1) ps)))
    ∙ flat_map-append (λ (p : Plan). p.edits) (take i ps) (get_or ps i d ∷ drop (i + 1) ps)
