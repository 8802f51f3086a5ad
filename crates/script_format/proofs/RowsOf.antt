-- The rows of a script: they have its plans and its sessions, and they may follow one another.
use Rattle.std.proofs.Common.{◌≡◌, ℕ, ◌+◌, ◌<◌, ◌≤◌, Bool, true, false, not, cond, ◌⊎◌, List, [], ◌∷◌, ◌++◌, length, drop, Option, Some, None, refl, sym, ap, subst, ◌∙◌, append_assoc, arith, inl, inr}
use Rattle.std.specs.Prelude.{count_by, nat_lt, nat_le, ◌&&◌, ◌||◌}
use Rattle.std.specs.List.{list_any, AllByRecursion}
use Rattle.std.proofs.lemmas.Bool.{lt-leb, lt-ltb}
use Rattle.std.proofs.lemmas.List.{append-nil}
use Rattle.std.proofs.lemmas.List.Sums.{sum_by-cons}
use Rattle.std.proofs.lemmas.List.Elements.{recursion_from_All}
use Rattle.mesh_base.specs.declared.edit.Edit.{Edit}
use Rattle.mesh_base.specs.declared.edit.Edit.TheVariants as edit
use Rattle.mesh_base.specs.declared.edit.Kernel.{Kernel}
use Rattle.mesh_base.specs.declared.edit.Kernel.TheVariants as kernel
use Rattle.run_script.specs.declared.script.LinedEdit.{LinedEdit}
use Rattle.run_script.specs.declared.script.Plan.{Plan}
use Rattle.run_script.specs.declared.script.Item.{Item}
use Rattle.run_script.specs.declared.script.Item.TheVariants as item
use Rattle.run_script.specs.Scripts.{ScriptView, IsEdit, IsKernel, IsItem, IsPlan, HoldsClose, IsSession, is_hold, is_ask, edit_count, ask_count, IsScript}
use Rattle.script_format.specs.declared.row.Row.{Row}
use Rattle.script_format.specs.declared.row.Row.TheVariants as row
use Rattle.script_format.specs.declared.row.Standing.{Standing}
use Rattle.script_format.specs.Rows.{is_end, plans, groups, sessions, standing}
use Rattle.script_format.specs.ScriptText.{is_misplaced, is_one_too_many}
use Rattle.script_format.proofs.LinesAgain.{edit_command, kernel_command, MayCome}
use Rattle.script_format.proofs.RowsAgain.{MayFollow}

-- ---- the rows of a script, each in front of further rows

abbrev pub edit_rows : List LinedEdit → List Row → List Row
edit_rows [] rest = rest
edit_rows (e ∷ es) rest = row.Edit e ∷ edit_rows es rest

abbrev pub plan_rows : List Plan → List Row → List Row
plan_rows [] rest = rest
plan_rows (p ∷ ps) rest = edit_rows p.edits (row.Move p.kernel ∷ plan_rows ps rest)

abbrev pub item_rows : List Item → List Row → List Row
item_rows [] rest = rest
item_rows (i ∷ is) rest = row.Does i ∷ item_rows is rest

abbrev pub session_rows : List (List Item) → List Row → List Row
session_rows [] rest = rest
session_rows (s ∷ ss) rest = row.Session ∷ item_rows s (session_rows ss rest)

abbrev pub script_rows : ScriptView → List Row
script_rows s = plan_rows s.plans (session_rows s.sessions (row.End ∷ []))

-- ---- what they make

plans-edits : (before es : List LinedEdit) (rest : List Row) → plans before (edit_rows es rest) ≡ plans (before ++ es) rest
plans-edits before [] rest = ap (λ (l : List LinedEdit). plans l rest) (sym (append-nil before))
plans-edits before (e ∷ es) rest = plans-edits (before ++ e ∷ []) es rest ∙ ap (λ (l : List LinedEdit). plans l rest) (append_assoc before (e ∷ []) es)

plans-plans : (ps : List Plan) (rest : List Row) → plans [] (plan_rows ps rest) ≡ ps ++ plans [] rest
plans-plans [] rest = refl
plans-plans (p ∷ ps) rest = plans-edits [] p.edits (row.Move p.kernel ∷ plan_rows ps rest) ∙ ap (λ (l : List Plan). p ∷ l) (plans-plans ps rest)

plans-items : (its : List Item) (rest : List Row) → plans [] (item_rows its rest) ≡ plans [] rest
plans-items [] rest = refl
plans-items (i ∷ its) rest = plans-items its rest

plans-sessions : (ss : List (List Item)) (rest : List Row) → plans [] (session_rows ss rest) ≡ plans [] rest
plans-sessions [] rest = refl
plans-sessions (s ∷ ss) rest = plans-items s (session_rows ss rest) ∙ plans-sessions ss rest

pub plans-are : (s : ScriptView) → plans [] (script_rows s) ≡ s.plans
plans-are s =
    plans-plans s.plans (session_rows s.sessions (row.End ∷ [])) ∙ (ap (λ (l : List Plan). s.plans ++ l) (plans-sessions s.sessions (row.End ∷ [])) ∙ append-nil s.plans)

groups-edits : (its : List Item) (es : List LinedEdit) (rest : List Row) → groups its (edit_rows es rest) ≡ groups its rest
groups-edits its [] rest = refl
groups-edits its (e ∷ es) rest = groups-edits its es rest

groups-plans : (its : List Item) (ps : List Plan) (rest : List Row) → groups its (plan_rows ps rest) ≡ groups its rest
groups-plans its [] rest = refl
groups-plans its (p ∷ ps) rest = groups-edits its p.edits (row.Move p.kernel ∷ plan_rows ps rest) ∙ groups-plans its ps rest

groups-items : (before its : List Item) (rest : List Row) → groups before (item_rows its rest) ≡ groups (before ++ its) rest
groups-items before [] rest = ap (λ (l : List Item). groups l rest) (sym (append-nil before))
groups-items before (i ∷ its) rest = groups-items (before ++ i ∷ []) its rest ∙ ap (λ (l : List Item). groups l rest) (append_assoc before (i ∷ []) its)

groups-sessions : (its : List Item) (ss : List (List Item)) → groups its (session_rows ss (row.End ∷ [])) ≡ its ∷ ss
groups-sessions its [] = refl
groups-sessions its (s ∷ ss) = ap (λ (l : List (List Item)). its ∷ l) (groups-items [] s (session_rows ss (row.End ∷ [])) ∙ groups-sessions s ss)

pub sessions-are : (s : ScriptView) → sessions (script_rows s) ≡ s.sessions
sessions-are s = ap (λ (l : List (List Item)). drop 1 l) (groups-plans [] s.plans (session_rows s.sessions (row.End ∷ [])) ∙ groups-sessions [] s.sessions)

any-edits : (es : List LinedEdit) (rest : List Row) → list_any is_end (edit_rows es rest) ≡ list_any is_end rest
any-edits [] rest = refl
any-edits (e ∷ es) rest = any-edits es rest

any-plans : (ps : List Plan) (rest : List Row) → list_any is_end (plan_rows ps rest) ≡ list_any is_end rest
any-plans [] rest = refl
any-plans (p ∷ ps) rest = any-edits p.edits (row.Move p.kernel ∷ plan_rows ps rest) ∙ any-plans ps rest

any-items : (its : List Item) (rest : List Row) → list_any is_end (item_rows its rest) ≡ list_any is_end rest
any-items [] rest = refl
any-items (i ∷ its) rest = any-items its rest

any-sessions : (ss : List (List Item)) (rest : List Row) → list_any is_end (session_rows ss rest) ≡ list_any is_end rest
any-sessions [] rest = refl
any-sessions (s ∷ ss) rest = any-items s (session_rows ss rest) ∙ any-sessions ss rest

pub rows-end : (s : ScriptView) → list_any is_end (script_rows s) ≡ true
rows-end s = any-plans s.plans (session_rows s.sessions (row.End ∷ [])) ∙ any-sessions s.sessions (row.End ∷ [])

-- ---- that they may follow: the plans

-- behind whole steps, or edits that wait
abbrev in_plans : Bool → ℕ → ℕ → Standing
in_plans waits k l = record {
  in_sessions = false;
  edits_wait = waits;
  hold = None;
  has_ended = false;
  steps = k;
  edits = l;
  sessions = 0;
  boxes = 0;
}

edit-order : (w : Bool) (k l : ℕ) (e : Edit) → is_misplaced (in_plans w k l) (edit_command e) ≡ false
edit-order true k l (edit.Point at) = refl
edit-order true k l (edit.Add corners) = refl
edit-order true k l (edit.Remove i) = refl
edit-order true k l (edit.Split i at) = refl
edit-order false k l (edit.Point at) = refl
edit-order false k l (edit.Add corners) = refl
edit-order false k l (edit.Remove i) = refl
edit-order false k l (edit.Split i at) = refl

edit-few : (w : Bool) (k l : ℕ) (e : Edit) → nat_le 1000000 l ≡ false → is_one_too_many (in_plans w k l) (edit_command e) ≡ false
edit-few w k l (edit.Point at) f = rw f refl
edit-few w k l (edit.Add corners) f = rw f refl
edit-few w k l (edit.Remove i) f = rw f refl
edit-few w k l (edit.Split i at) f = rw f refl

move-order : (w : Bool) (k l : ℕ) (m : Kernel) → is_misplaced (in_plans w k l) (kernel_command m) ≡ false
move-order true k l kernel.Stay = refl
move-order true k l (kernel.Shift dx dy dz) = refl
move-order true k l (kernel.Pull to num den) = refl
move-order true k l (kernel.Shake seed amp) = refl
move-order true k l kernel.Relax = refl
move-order true k l (kernel.Turn axis) = refl
move-order false k l kernel.Stay = refl
move-order false k l (kernel.Shift dx dy dz) = refl
move-order false k l (kernel.Pull to num den) = refl
move-order false k l (kernel.Shake seed amp) = refl
move-order false k l kernel.Relax = refl
move-order false k l (kernel.Turn axis) = refl

move-few : (w : Bool) (k l : ℕ) (m : Kernel) → nat_le 10000 k ≡ false → is_one_too_many (in_plans w k l) (kernel_command m) ≡ false
move-few w k l kernel.Stay f = rw f refl
move-few w k l (kernel.Shift dx dy dz) f = rw f refl
move-few w k l (kernel.Pull to num den) f = rw f refl
move-few w k l (kernel.Shake seed amp) f = rw f refl
move-few w k l kernel.Relax f = rw f refl
move-few w k l (kernel.Turn axis) f = rw f refl

module _ (version : ℕ) where
  -- the edits of a plan, of which there will be `edits` with those before, and its motion
  plan-follows : (w : Bool) (k l edits : ℕ) (es : List LinedEdit) (m : Kernel) (rest : List Row) → AllByRecursion (λ e. IsEdit e.edit) es → IsKernel m → k < 10000 → l + length es ≡ edits → edits ≤ 1000000
      → MayFollow version (in_plans false (k + 1) edits) rest → MayFollow version (in_plans w k l) (edit_rows es (row.Move m ∷ rest))
  plan-follows w k l edits [] m rest a f lt sum le g =
      let same : l ≡ edits = omega arith in
      (record { fits = f; in_order = move-order w k l m; few = move-few w k l m (lt-leb 10000 k lt) }, subst (λ (n : ℕ). MayFollow version (in_plans false (k + 1) n) rest) (sym same) g)
  plan-follows w k l edits (e ∷ es) m rest a f lt sum le g =
      (record { fits = a.0; in_order = edit-order w k l e.edit; few = edit-few w k l e.edit (lt-leb 1000000 l (omega arith)) }, plan-follows true k (l + 1) edits es m rest a.1 f lt (omega arith) le g)

  plans-follow : (k l steps edits : ℕ) (ps : List Plan) (rest : List Row) → AllByRecursion IsPlan ps → k + length ps ≡ steps → steps ≤ 10000 → l + edit_count ps ≡ edits → edits ≤ 1000000
      → MayFollow version (in_plans false steps edits) rest → MayFollow version (in_plans false k l) (plan_rows ps rest)
  plans-follow k l steps edits [] rest a n few sum le g =
      let p : steps ≡ k = omega arith in
      let q : edits ≡ l = omega arith in
      subst (λ (n : ℕ). MayFollow version (in_plans false k n) rest) q (subst (λ (n : ℕ). MayFollow version (in_plans false n edits) rest) p g)
  plans-follow k l steps edits (p ∷ ps) rest a n few sum le g =
      let count = sum_by-cons (λ (p : Plan). length p.edits) p ps in
      plan-follows false k l (l + length p.edits) p.edits p.kernel (plan_rows ps rest) (recursion_from_All (λ (e : LinedEdit). IsEdit e.edit) p.edits (a.0).edits) (a.0).kernel (omega arith) refl (omega arith)
      (plans-follow (k + 1) (l + length p.edits) steps edits ps rest a.1 (omega arith) few (omega arith) le g)

-- ---- the sessions

abbrev in_turns : Bool → Option ℕ → ℕ → ℕ → ℕ → ℕ → Standing
in_turns began hold k l m b = record {
  in_sessions = began;
  edits_wait = false;
  hold = hold;
  has_ended = false;
  steps = k;
  edits = l;
  sessions = m;
  boxes = b;
}

-- whether a hold could end here makes no difference to a box
no-free : (b : Bool) → ((not b && false) || false) ≡ false
no-free true = refl
no-free false = refl

holds-of : (version : ℕ) (i : Item) (its : List Item) → (version ≡ 1 → count_by is_hold (i ∷ its) ≡ 0) → version ≡ 1 → count_by is_hold its ≡ 0
holds-of version i its h one = let c = sum_by-cons (λ (x : Item). cond (is_hold x) 1 0) i its in omega (arith, h one)

hold-fits : (version : ℕ) (its : List Item) → (version ≡ 1) ⊎ (version ≡ 2) → (version ≡ 1 → count_by is_hold (item.Hold ∷ its) ≡ 0) → version ≡ 2
hold-fits version its (inl one) h = let c = sum_by-cons (λ (x : Item). cond (is_hold x) 1 0) item.Hold its in absurd (omega (arith, h one))
hold-fits version its (inr two) h = two

-- a hold that is open is of version 2
abbrev HeldFits : ℕ → Option ℕ → Type 0
HeldFits version None = Unit {0}
HeldFits version (Some n) = version ≡ 2

module _ (version k l : ℕ) (v : (version ≡ 1) ⊎ (version ≡ 2)) where
  items-follow : (hold : Option ℕ) (m b boxes : ℕ) (its : List Item) (rest : List Row) → AllByRecursion IsItem its → HoldsClose hold its → HeldFits version hold → (version ≡ 1 → count_by is_hold its ≡ 0)
      → b + count_by is_ask its ≡ boxes → boxes ≤ 100000 → MayFollow version (in_turns true None k l m boxes) rest → MayFollow version (in_turns true hold k l m b) (item_rows its rest)
  items-follow None m b boxes [] rest a h f one sum le g =
      let same : boxes ≡ b = omega arith in
      subst (λ (n : ℕ). MayFollow version (in_turns true None k l m n) rest) same g
  items-follow (Some n) m b boxes [] rest a h f one sum le g = absurd h
  items-follow None m b boxes (item.Wait line step ∷ its) rest a h f one sum le g =
      let c = sum_by-cons (λ (x : Item). cond (is_ask x) 1 0) (item.Wait line step) its in
      (record { fits = (a.0, tt); in_order = refl; few = refl }, items-follow None m b boxes its rest a.1 h tt (holds-of version (item.Wait line step) its one) (omega arith) le g)
  items-follow (Some n) m b boxes (item.Wait line step ∷ its) rest a h f one sum le g = absurd h
  items-follow None m b boxes (item.Ask area ∷ its) rest a h f one sum le g =
      let c = sum_by-cons (λ (x : Item). cond (is_ask x) 1 0) (item.Ask area) its in
      (record { fits = (a.0, tt); in_order = refl; few = rw (lt-leb 100000 b (omega arith)) refl }, items-follow None m (b + 1) boxes its rest a.1 h tt (holds-of version (item.Ask area) its one) (omega arith) le g)
  items-follow (Some n) m b boxes (item.Ask area ∷ its) rest a h f one sum le g =
      let c = sum_by-cons (λ (x : Item). cond (is_ask x) 1 0) (item.Ask area) its in
      (record { fits = (a.0, tt); in_order = no-free (nat_lt 0 n); few = rw (lt-leb 100000 b (omega arith)) refl }, items-follow (Some (n + 1)) m (b + 1) boxes its rest a.1 h f (holds-of version (item.Ask area) its one) (omega arith) le g)
  items-follow None m b boxes (item.Hold ∷ its) rest a h f one sum le g =
      let c = sum_by-cons (λ (x : Item). cond (is_ask x) 1 0) item.Hold its in
      let two = hold-fits version its v one in
      (record { fits = (a.0, two); in_order = refl; few = refl }, items-follow (Some 0) m b boxes its rest a.1 h two (holds-of version item.Hold its one) (omega arith) le g)
  items-follow (Some n) m b boxes (item.Hold ∷ its) rest a h f one sum le g = absurd h
  items-follow None m b boxes (item.Free ∷ its) rest a h f one sum le g = absurd h
  items-follow (Some n) m b boxes (item.Free ∷ its) rest a h f one sum le g =
      let c = sum_by-cons (λ (x : Item). cond (is_ask x) 1 0) item.Free its in
      (record { fits = (a.0, f); in_order = rw (lt-ltb 0 n h.0) refl; few = refl }, items-follow None m b boxes its rest a.1 h.1 tt (holds-of version item.Free its one) (omega arith) le g)

  session-comes : (began : Bool) (m b : ℕ) → nat_le 8 m ≡ false → MayCome version (in_turns began None k l m b) row.Session
  session-comes true m b f = record { fits = tt; in_order = refl; few = rw f refl }
  session-comes false m b f = record { fits = tt; in_order = refl; few = rw f refl }

  end-comes : (began : Bool) (m b : ℕ) → MayCome version (in_turns began None k l m b) row.End
  end-comes true m b = record { fits = tt; in_order = refl; few = refl }
  end-comes false m b = record { fits = tt; in_order = refl; few = refl }

  sessions-follow : (began : Bool) (m b boxes : ℕ) (ss : List (List Item)) → AllByRecursion (IsSession version) ss → m + length ss ≤ 8 → b + ask_count ss ≡ boxes → boxes ≤ 100000
      → MayFollow version (in_turns began None k l m b) (session_rows ss (row.End ∷ []))
  sessions-follow began m b boxes [] a few sum le = (end-comes began m b, tt)
  sessions-follow began m b boxes (s ∷ ss) a few sum le =
      let c = sum_by-cons (count_by is_ask) s ss in (
        session-comes began m b (lt-leb 8 m (omega arith)),
        items-follow None (m + 1) b (b + count_by is_ask s) s (session_rows ss (row.End ∷ [])) (recursion_from_All IsItem s (a.0).fit) (a.0).closed tt (a.0).version_1 refl (omega arith)
            (sessions-follow true (m + 1) (b + count_by is_ask s) boxes ss a.1 (omega arith) (omega arith) le),
      )

pub rows-follow : (s : ScriptView) → IsScript s → MayFollow s.version (standing []) (script_rows s)
rows-follow s i =
    plans-follow s.version 0 0 (length s.plans) (edit_count s.plans) s.plans (session_rows s.sessions (row.End ∷ [])) (recursion_from_All IsPlan s.plans i.plans) (omega arith) i.few_steps (omega arith) i.few_edits
    (sessions-follow s.version (length s.plans) (edit_count s.plans) i.version false 0 0 (ask_count s.sessions) s.sessions (recursion_from_All (IsSession s.version) s.sessions i.sessions) (let f = i.few_sessions in omega arith) (omega arith) i.few_boxes)
