-- A script that passes the checks makes a job.
use Rattle.std.proofs.Common.{◌≡◌, ◌≢◌, ℕ, zero, suc, ◌+◌, ◌<◌, ◌≤◌, Bool, true, false, not, cond, List, [], ◌∷◌, ◌++◌, length, take, drop, map, Option, Some, None, refl, sym, ap, ◌∙◌, subst, arith, length-append, add-one, max}
use Rattle.std.specs.Prelude.{slice_set, nat_lt, nat_le, ◌==◌, ◌&&◌, All, IsSome, sum_by, count_by}
use Rattle.std.specs.List.{AllByRecursion}
use Rattle.std.specs.Option.{is_some, option_map_or}
use Rattle.std.proofs.lemmas.Bool.{ltb-true, leb-true, eqb-false}
use Rattle.std.proofs.lemmas.List.{length-map}
use Rattle.std.proofs.lemmas.List.FromFn.{length-range_with_len}
use Rattle.std.proofs.lemmas.List.Sums.{sum_by-cons}
use Rattle.std.proofs.lemmas.List.Elements.{All-from_recursion, recursion_from_All}
use Rattle.mesh_base.specs.Place.{Area}
use Rattle.mesh_base.specs.Mesh.{MeshView, Corners, corners_of, IsMesh, AreDifferent}
use Rattle.mesh_base.specs.Edit.{cell_at, split_cells, edited, EditFits}
use Rattle.mesh_base.specs.Kernel.{moved}
use Rattle.mesh_base.specs.declared.edit.Kernel.{Kernel}
use Rattle.mesh_base.specs.declared.edit.Edit.{Edit}
use Rattle.mesh_base.specs.declared.edit.Edit.TheVariants as edit
use Rattle.run_script.specs.declared.fault.ScriptKind.{ScriptKind}
use Rattle.run_script.specs.declared.fault.ScriptKind.TheVariants as kinds
use Rattle.run_script.specs.declared.job.SessionTurn.{SessionTurn}
use Rattle.run_script.specs.declared.script.LinedEdit.{LinedEdit}
use Rattle.run_script.specs.declared.script.Plan.{Plan}
use Rattle.run_script.specs.declared.script.Item.{Item}
use Rattle.run_script.specs.declared.script.Item.TheVariants as item
use Rattle.run_script.specs.Faults.{fault}
use Rattle.run_script.specs.Scripts.{ScriptView, IsScript, IsSession, HoldsClose, is_ask, ask_count}
use Rattle.run_script.specs.Jobs.{turn, turns, turns_from, JobView, box_count as boxes_of, all_edited, planned, plan_at, idle, step_at, has_points, are_different, edit_fault, fault_on, edits_fault, wait_fault, edits_of, items_of, script_fault, job_of, EditsFit, IsTurn, IsJob}
use Rattle.run_script.proofs.CheckLemmas.{all_edited-append, edits_fault-append, wait_fault-append, edits_of-more-at, edits_of-around-at, or_else-none}

-- ---- an edit without a fault fits

and-split : (a b : Bool) → (a && b) ≡ true → (a ≡ true) × (b ≡ true)
and-split true b e = (refl, e)
and-split false b e = absurd (cc)

not-true : (b : Bool) → not b ≡ false → b ≡ true
not-true true e = refl
not-true false e = absurd (cc)

not-false : (b : Bool) → not b ≡ true → b ≡ false
not-false true e = absurd (cc)
not-false false e = refl

unfaulted : (b : Bool) (k : ScriptKind) (rest : Option ScriptKind) → cond b (Some k) rest ≡ None → (b ≡ false) × (rest ≡ None)
unfaulted true k rest e = absurd (cc)
unfaulted false k rest e = (refl, e)

passed : (b : Bool) (k : ScriptKind) → cond b None (Some k) ≡ None → b ≡ true
passed true k e = refl
passed false k e = absurd (cc)

some-is : {A : Type 0} (o : Option A) → is_some o ≡ true → IsSome o
some-is None e = absurd (cc)
some-is (Some x) e = refl

within : (n : ℕ) (c : Corners) → has_points n c ≡ true → (c.0 < n) × (c.1 < n) × (c.2 < n) × (c.3 < n)
within n c e =
    let a = and-split _ _ e in
    let b = and-split _ _ a.1 in
    let d = and-split _ _ b.1 in
    (ltb-true _ _ a.0, ltb-true _ _ b.0, ltb-true _ _ d.0, ltb-true _ _ d.1)

apart : (a b : ℕ) → not (a == b) ≡ true → a ≢ b
apart a b e = eqb-false a b (not-false (a == b) e)

different : (c : Corners) → are_different c ≡ true → AreDifferent c
different c e =
    let a = and-split _ _ e in
    let b = and-split _ _ a.1 in
    let d = and-split _ _ b.1 in
    let f = and-split _ _ d.1 in
    let g = and-split _ _ f.1 in
    (apart _ _ a.0, apart _ _ b.0, apart _ _ d.0, apart _ _ f.0, apart _ _ g.0, apart _ _ g.1)

pub edit-fits : (mesh : MeshView) (e : Edit) → edit_fault mesh e ≡ None → EditFits mesh e
unfolding edit_fault
edit-fits mesh (edit.Point at) e = ltb-true _ _ (passed (nat_lt (length mesh.points) 1000000) kinds.Limit e)
edit-fits mesh (edit.Add corners) e =
    let c = corners_of corners in
    let a = unfaulted (not (has_points (length mesh.points) c)) kinds.NoPoint
    (cond (not (are_different c)) (Some kinds.SameVertex) (cond (nat_lt (length mesh.cells) 4000000) None (Some kinds.Limit))) e in
    let b = unfaulted (not (are_different c)) kinds.SameVertex (cond (nat_lt (length mesh.cells) 4000000) None (Some kinds.Limit)) a.1 in
    (within (length mesh.points) c (not-true _ a.0), different c (not-true _ b.0), ltb-true _ _ (passed (nat_lt (length mesh.cells) 4000000) kinds.Limit b.1))
edit-fits mesh (edit.Remove i) e = some-is (cell_at mesh.cells i) (passed (is_some (cell_at mesh.cells i)) kinds.NoCell e)
edit-fits mesh (edit.Split i at) e =
    let a = unfaulted (not (is_some (cell_at mesh.cells i))) kinds.NoCell (cond (nat_lt (length mesh.points) 1000000 && nat_le (length mesh.cells) 3999996) None (Some kinds.Limit)) e in
    let b = and-split _ _ (passed (nat_lt (length mesh.points) 1000000 && nat_le (length mesh.cells) 3999996) kinds.Limit a.1) in
    (some-is (cell_at mesh.cells i) (not-true _ a.0), ltb-true _ _ b.0, leb-true _ _ b.1)

fault_on-none : (n : ℕ) (o : Option ScriptKind) → fault_on n o ≡ None → o ≡ None
fault_on-none n None e = refl
fault_on-none n (Some k) e = absurd (cc)

edits-fit : (mesh : MeshView) (es : List LinedEdit) → edits_fault mesh es ≡ None → EditsFit mesh es
unfolding edits_fault
edits-fit mesh [] e = tt
edits-fit mesh (x ∷ es) e =
    let p = or_else-none (fault_on x.line (edit_fault mesh x.edit)) (edits_fault (edited mesh x.edit) es) e in
    (edit-fits mesh x.edit (fault_on-none x.line (edit_fault mesh x.edit) p.0), edits-fit (edited mesh x.edit) es p.1)

-- ---- a motion changes neither the number of points nor the cells

record SameShape (a b : MeshView) : Type 0 where
  points : length a.points ≡ length b.points
  cells : a.cells ≡ b.cells

same-edited : (a b : MeshView) (e : Edit) → SameShape a b → SameShape (edited a e) (edited b e)
same-edited a b (edit.Point at) s = record { points = let p = s.points in omega (arith, length-append a.points (at ∷ []), length-append b.points (at ∷ [])); cells = s.cells }
same-edited a b (edit.Add corners) s = record { points = s.points; cells = ap (λ (cs : List (Option Corners)). cs ++ Some (corners_of corners) ∷ []) s.cells }
same-edited a b (edit.Remove i) s = record { points = s.points; cells = ap (λ (cs : List (Option Corners)). slice_set cs i None) s.cells }
same-edited a b (edit.Split i at) s = record {
  points = let p = s.points in omega (arith, length-append a.points (at ∷ []), length-append b.points (at ∷ []));
  cells = ap (λ (cs : List (Option Corners)). option_map_or (split_cells cs (length a.points) i) (cell_at cs i) cs) s.cells
      ∙ ap (λ (n : ℕ). option_map_or (split_cells b.cells n i) (cell_at b.cells i) b.cells) s.points;
}

same-all : (a b : MeshView) (es : List LinedEdit) → SameShape a b → SameShape (all_edited a es) (all_edited b es)
same-all a b [] s = s
same-all a b (x ∷ es) s = same-all (edited a x.edit) (edited b x.edit) es (same-edited a b x.edit s)

same-trans : (a b c : MeshView) → SameShape a b → SameShape b c → SameShape a c
same-trans a b c s t = record { points = s.points ∙ t.points; cells = s.cells ∙ t.cells }

same-sym : (a b : MeshView) → SameShape a b → SameShape b a
same-sym a b s = record { points = sym s.points; cells = sym s.cells }

edit-fits-same : (a b : MeshView) (e : Edit) → SameShape a b → EditFits a e → EditFits b e
edit-fits-same a b (edit.Point at) s f = subst (λ (n : ℕ). n < 1000000) s.points f
edit-fits-same a b (edit.Add corners) s f =
    (let n = s.points in (omega arith, omega arith, omega arith, omega arith), f.1, subst (λ (cs : List (Option Corners)). length cs < 4000000) s.cells f.2)
edit-fits-same a b (edit.Remove i) s f = subst (λ (cs : List (Option Corners)). IsSome (cell_at cs i)) s.cells f
edit-fits-same a b (edit.Split i at) s f =
    (subst (λ (cs : List (Option Corners)). IsSome (cell_at cs i)) s.cells f.0, subst (λ (n : ℕ). n < 1000000) s.points f.1, subst (λ (cs : List (Option Corners)). length cs ≤ 3999996) s.cells f.2)

edits-fit-same : (a b : MeshView) (es : List LinedEdit) → SameShape a b → EditsFit a es → EditsFit b es
edits-fit-same a b [] s f = tt
edits-fit-same a b (x ∷ es) s f = (edit-fits-same a b x.edit s f.0, edits-fit-same (edited a x.edit) (edited b x.edit) es (same-edited a b x.edit s) f.1)

moved-shape : (mesh : MeshView) (plan : Plan) (k : ℕ) → SameShape (planned mesh plan k) (all_edited mesh plan.edits)
moved-shape mesh plan k = record { points = moved_len (all_edited mesh plan.edits) plan.kernel k; cells = refl }
  where
    moved_len : (m : MeshView) (kernel : Kernel) (k : ℕ) → length (moved m kernel k) ≡ length m.points
    moved_len m kernel k = simp (length-map, length-range_with_len)

shape-at : (job : JobView) (k : ℕ) → k ≤ length job.plans → SameShape (step_at job k) (all_edited job.mesh (edits_of (take k job.plans)))
unfolding step_at
shape-at job zero le = record { points = refl; cells = refl }
shape-at job (suc k) le =
    let now = shape-at job k (omega arith) in
    let plan = plan_at job k in
    let lt : k < length job.plans = omega arith in
    let one = moved-shape (step_at job k) plan (k + 1) in
    let two = same-all (step_at job k) (all_edited job.mesh (edits_of (take k job.plans))) plan.edits now in
    let is : all_edited (all_edited job.mesh (edits_of (take k job.plans))) plan.edits ≡ all_edited job.mesh (edits_of (take (suc k) job.plans)) =
    sym (all_edited-append job.mesh (edits_of (take k job.plans)) plan.edits)
    ∙ (ap (all_edited job.mesh) (sym (edits_of-more-at job.plans k lt idle)) ∙ ap (λ (n : ℕ). all_edited job.mesh (edits_of (take n job.plans))) (add-one k)) in
    subst (λ (m : MeshView). SameShape (planned (step_at job k) plan (k + 1)) m) is
    (same-trans (planned (step_at job k) plan (k + 1)) (all_edited (step_at job k) plan.edits) (all_edited (all_edited job.mesh (edits_of (take k job.plans))) plan.edits) one two)

all-edits-fit : (job : JobView) → edits_fault job.mesh (edits_of job.plans) ≡ None → (k : ℕ) → k < length job.plans → EditsFit (step_at job k) (plan_at job k).edits
all-edits-fit job none k lt =
    let front = edits_of (take k job.plans) in
    let plan = plan_at job k in
    let back = edits_of (drop (k + 1) job.plans) in
    let split : edits_fault job.mesh (front ++ (plan.edits ++ back)) ≡ None = ap (edits_fault job.mesh) (sym (edits_of-around-at job.plans k lt idle)) ∙ none in
    let one = or_else-none (edits_fault job.mesh front) (edits_fault (all_edited job.mesh front) (plan.edits ++ back)) (sym (edits_fault-append job.mesh front (plan.edits ++ back)) ∙ split) in
    let two = or_else-none (edits_fault (all_edited job.mesh front) plan.edits) (edits_fault (all_edited (all_edited job.mesh front) plan.edits) back)
    (sym (edits_fault-append (all_edited job.mesh front) plan.edits back) ∙ one.1) in
    let le : k ≤ length job.plans = omega arith in
    edits-fit-same (all_edited job.mesh front) (step_at job k) plan.edits (same-sym (step_at job k) (all_edited job.mesh front) (shape-at job k le)) (edits-fit (all_edited job.mesh front) plan.edits two.0)

-- ---- turns

abbrev hold_len : Option (List Area) → Option ℕ
hold_len None = None
hold_len (Some areas) = Some (length areas)

abbrev hold_count : Option (List Area) → ℕ
hold_count None = 0
hold_count (Some areas) = length areas

max-most : (a b n : ℕ) → a ≤ n → b ≤ n → max a b ≤ n
max-most a b n p q = omega arith

wait-least : (steps line step : ℕ) (items : List Item) → wait_fault steps (item.Wait line step ∷ items) ≡ None → (step ≤ steps) × (wait_fault steps items ≡ None)
unfolding wait_fault
wait-least steps line step items e = by (nat_le step steps) refl e
  where
    by : (b : Bool) → nat_le step steps ≡ b → cond b (wait_fault steps items) (Some (fault kinds.NoStep line)) ≡ None → (step ≤ steps) × (wait_fault steps items ≡ None)
    by true f e = (leb-true _ _ f, e)
    by false f e = absurd (cc)

-- the turns of items that close their holds
record Turned (steps need : ℕ) (hold : Option (List Area)) (items : List Item) : Type 0 where
  each : AllByRecursion (IsTurn steps) (turns_from need hold items)
  boxes : boxes_of (turns_from need hold items) ≡ hold_count hold + count_by is_ask items

turned : (steps need : ℕ) (hold : Option (List Area)) (items : List Item) → need ≤ steps → HoldsClose (hold_len hold) items → wait_fault steps items ≡ None → Turned steps need hold items
unfolding wait_fault
turned steps need None [] le h w = record { each = tt; boxes = refl }
turned steps need (Some areas) [] le h w = absurd h
turned steps need None (item.Wait line step ∷ items) le h w =
    let p = wait-least steps line step items w in
    let t = turned steps (max need step) None items (max-most need step steps le p.0) h p.1 in
    record { each = t.each; boxes = omega (arith, t.boxes, sum_by-cons (λ i. cond (is_ask i) 1 0) (item.Wait line step) items) }
turned steps need (Some areas) (item.Wait line step ∷ items) le h w = absurd h
turned steps need None (item.Ask area ∷ items) le h w =
    let t = turned steps need None items le h w in
    record {
      each = (record { need = le; some = omega arith }, t.each);
      boxes = omega (arith, t.boxes, sum_by-cons (λ (t : SessionTurn). length t.areas) (turn need (area ∷ [])) (turns_from need None items), sum_by-cons (λ i. cond (is_ask i) 1 0) (item.Ask area) items);
    }
turned steps need (Some areas) (item.Ask area ∷ items) le h w =
    let more = length-append areas (area ∷ []) in
    let t = turned steps need (Some (areas ++ area ∷ [])) items le (subst (λ (n : ℕ). HoldsClose (Some n) items) (sym more) h) w in
    record { each = t.each; boxes = omega (arith, t.boxes, more, sum_by-cons (λ i. cond (is_ask i) 1 0) (item.Ask area) items) }
turned steps need None (item.Hold ∷ items) le h w =
    let t = turned steps need (Some []) items le h w in
    record { each = t.each; boxes = omega (arith, t.boxes, sum_by-cons (λ i. cond (is_ask i) 1 0) item.Hold items) }
turned steps need (Some areas) (item.Hold ∷ items) le h w = absurd h
turned steps need None (item.Free ∷ items) le h w = absurd h
turned steps need (Some areas) (item.Free ∷ items) le h w =
    let t = turned steps need None items le h.1 w in
    record {
      each = (record { need = le; some = h.0 }, t.each);
      boxes = omega (arith, t.boxes, sum_by-cons (λ (t : SessionTurn). length t.areas) (turn need areas) (turns_from need None items), sum_by-cons (λ i. cond (is_ask i) 1 0) item.Free items);
    }

-- each turn has a box
few-turns : (steps : ℕ) (ts : List SessionTurn) → AllByRecursion (IsTurn steps) ts → length ts ≤ boxes_of ts
few-turns steps [] a = omega arith
few-turns steps (t ∷ ts) a = let s = (a.0).some in omega (arith, few-turns steps ts a.1, sum_by-cons (λ (t : SessionTurn). length t.areas) t ts)

record AllTurned (steps : ℕ) (sessions : List (List Item)) : Type 0 where
  each : AllByRecursion (All (IsTurn steps)) (map turns sessions)
  boxes : sum_by boxes_of (map turns sessions) ≡ ask_count sessions
  few : sum_by length (map turns sessions) ≤ ask_count sessions

all-turned : (version steps : ℕ) (sessions : List (List Item)) → AllByRecursion (IsSession version) sessions → wait_fault steps (items_of sessions) ≡ None → AllTurned steps sessions
all-turned version steps [] a w = record { each = tt; boxes = refl; few = omega arith }
all-turned version steps (s ∷ ss) a w =
    let p = or_else-none (wait_fault steps s) (wait_fault steps (items_of ss)) (sym (wait_fault-append steps s (items_of ss)) ∙ w) in
    let t = turned steps 0 None s (omega arith) (a.0).closed p.0 in
    let rest = all-turned version steps ss a.1 p.1 in
    let own = few-turns steps (turns s) t.each in
    let b = sum_by-cons boxes_of (turns s) (map turns ss) in
    let l = sum_by-cons length (turns s) (map turns ss) in
    let c = sum_by-cons (count_by is_ask) s ss in
    record {
      each = (All-from_recursion (IsTurn steps) (turns s) t.each, rest.each);
      boxes = omega (arith, t.boxes, rest.boxes);
      few = omega (arith, t.boxes, rest.few);
    }

pub job-fits : (mesh : MeshView) (script : ScriptView) → IsMesh mesh.points mesh.cells → IsScript script → script_fault mesh script ≡ None → IsJob (job_of mesh script)
job-fits mesh script m s none =
    let p = or_else-none (edits_fault mesh (edits_of script.plans)) (wait_fault (length script.plans) (items_of script.sessions)) none in
    let t = all-turned script.version (length script.plans) script.sessions (recursion_from_All (IsSession script.version) script.sessions s.sessions) p.1 in
    record {
      mesh = m;
      few_steps = s.few_steps;
      few_edits = s.few_edits;
      few_sessions = let f = s.few_sessions in omega (arith, length-map script.sessions turns);
      few_turns = let f = s.few_boxes in omega (arith, t.few);
      few_boxes = let f = s.few_boxes in omega (arith, t.boxes);
      plans = s.plans;
      edits = all-edits-fit (job_of mesh script) p.0;
      turns = All-from_recursion (All (IsTurn (length script.plans))) (map turns script.sessions) t.each;
    }
