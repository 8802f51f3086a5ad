-- What is known of a row once its line has passed the checks.
use Rattle.std.proofs.Common.{◌≡◌, ◌≢◌, ℕ, ◌+◌, ◌<◌, ◌≤◌, ◌^◌, ◌-◌, Bool, true, false, not, cond, List, [], ◌∷◌, length, Option, Some, None, Result, Ok, Err, ℤ, pos, neg_ℤ, refl, sym, ap, ◌∙◌, subst, arith}
use Rattle.mesh_base.specs.declared.edit.Edit.TheVariants as edit
use Rattle.mesh_base.specs.declared.edit.Kernel.TheVariants as kernel
use Rattle.std.specs.Prelude.{◌==◌, ◌≤ℤ◌, unsigned_abs, ◌||◌, ◌&&◌, nat_lt, nat_le, All, int_le}
use Rattle.std.specs.List.{list_any}
use Rattle.std.specs.Option.{is_some}
use Rattle.std.specs.Str.{bytes_eq}
use Rattle.std.proofs.lemmas.Int.{ints}
use Rattle.std.proofs.lemmas.Bool.{leb-false, ltb-true}
use Rattle.std.proofs.lemmas.List.Elements.{All-from_recursion}
use Rattle.mesh_base.specs.Place.{Place, IsPlace, IsArea, Area}
use Rattle.oct_text.specs.Numbers.{signed_of}
use Rattle.oct_text.proofs.ReadAgain.{signed_of-between}
use Rattle.oct_text.specs.declared.numbers.CountFault.{CountFault}
use Rattle.oct_text.specs.declared.numbers.CountFault.TheVariants as count_faults
use Rattle.run_script.specs.declared.fault.ScriptKind.{ScriptKind}
use Rattle.run_script.specs.declared.fault.ScriptKind.TheVariants as kinds
use Rattle.run_script.specs.declared.script.Item.TheVariants as item
use Rattle.script_format.specs.declared.row.Command.{Command}
use Rattle.script_format.specs.declared.row.Command.TheVariants as command
use Rattle.script_format.specs.declared.row.Row.{Row}
use Rattle.script_format.specs.declared.row.Row.TheVariants as row
use Rattle.script_format.specs.declared.row.Standing.{Standing}
use Rattle.script_format.specs.ScriptText.{◌>>=◌, Word, valued, number_as, signed, number, coordinate, index, place, corners, axis_of, area_of, row_of, checked_row, row_of_line, is_comment, some_row, spelled, spelling, commands, is_misplaced, is_one_too_many, can_free, adds_edit, adds_move, adds_item, ends_steps, ends_turns, is_free, is_session_line, is_box_line, words_of}
use Rattle.run_script.specs.Scripts.{IsEdit, IsKernel}

-- ---- one thing after another

pub bind-ok : {A B E : Type 0} (r : Result A E) (f : A → Result B E) (y : B) → (r >>= f) ≡ Ok y → (x : A) × (r ≡ Ok x) × (f x ≡ Ok y)
bind-ok (Ok x) f y e = (x, refl, e)
bind-ok (Err k) f y e = absurd (cc)

pub unless-ok : {A E : Type 0} (b : Bool) (k : E) (r : Result A E) (y : A) → cond b (Err k) r ≡ Ok y → (b ≡ false) × (r ≡ Ok y)
unless-ok true k r y e = absurd (cc)
unless-ok false k r y e = (refl, e)

-- ---- values in range

valued-ok : {A : Type 0} (left : List Word) (view : ℤ → A) (r : Result ℤ CountFault) (p : A × List Word) → valued left view r ≡ Ok p → (z : ℤ) × (r ≡ Ok z) × (p.0 ≡ view z)
valued-ok {A} left view (Ok z) p e =
    let q : A × List Word = (view z, left) in
    let same : q ≡ p = cc in
    (z, refl, ap (λ (w : A × List Word). w.0) (sym same))
valued-ok left view (Err count_faults.Bad) p e = absurd (cc)
valued-ok left view (Err count_faults.Over) p e = absurd (cc)

number_as-ok : {A : Type 0} (view : ℤ → A) (least most : ℤ) (ws : List Word) (p : A × List Word) → number_as view least most ws ≡ Ok p
    → (z : ℤ) × (least ≤ℤ z) × (z ≤ℤ most) × (p.0 ≡ view z)
number_as-ok view least most [] p e = absurd (cc)
number_as-ok view least most (w ∷ ws) p e =
    let v = valued-ok ws view (signed_of w least most) p e in
    let b = signed_of-between w least most v.0 v.1 in (v.0, b.0, b.1, v.2)

pub signed-ok : (least most : ℤ) (ws : List Word) (r : ℤ × List Word) → signed least most ws ≡ Ok r → (least ≤ℤ r.0) × (r.0 ≤ℤ most)
signed-ok least most ws r e = let v = number_as-ok (λ z. z) least most ws r e in rw v.3 (v.1, v.2)

abs-most : (z : ℤ) (most : ℕ) → pos 0 ≤ℤ z → z ≤ℤ pos most → unsigned_abs z ≤ most
abs-most z most low high = omega (arith, ints)

pub number-ok : (most : ℕ) (ws : List Word) (r : ℕ × List Word) → number most ws ≡ Ok r → r.0 ≤ most
number-ok most ws r e = let v = number_as-ok unsigned_abs (pos 0) (pos most) ws r e in rw v.3 (abs-most v.0 most v.1 v.2)

pub place-ok : (ws : List Word) (r : Place × List Word) → place ws ≡ Ok r → IsPlace r.0
unfolding place
place-ok ws r e =
    let x = bind-ok (coordinate ws) (λ x. coordinate x.1 >>= λ y. coordinate y.1 >>= λ z. Ok ((x.0, y.0, z.0), z.1)) r e in
    let y = bind-ok (coordinate (x.0).1) (λ y. coordinate y.1 >>= λ z. Ok (((x.0).0, y.0, z.0), z.1)) r x.2 in
    let z = bind-ok (coordinate (y.0).1) (λ z. Ok (((x.0).0, (y.0).0, z.0), z.1)) r y.2 in
    let same : (((x.0).0, (y.0).0, (z.0).0), (z.0).1) ≡ r = cc in
    let a = signed-ok (neg_ℤ (pos (2 ^ 30))) (pos (2 ^ 30)) ws x.0 x.1 in
    let b = signed-ok (neg_ℤ (pos (2 ^ 30))) (pos (2 ^ 30)) (x.0).1 y.0 y.1 in
    let c = signed-ok (neg_ℤ (pos (2 ^ 30))) (pos (2 ^ 30)) (y.0).1 z.0 z.1 in
    subst (λ (p : Place × List Word). IsPlace p.0) same (a, b, c)

below : (n : ℕ) → n ≤ 2 ^ 32 - 1 → n < 2 ^ 32
below n le = omega arith

pub index-ok : (ws : List Word) (r : ℕ × List Word) → index ws ≡ Ok r → r.0 < 2 ^ 32
index-ok ws r e = below r.0 (number-ok (2 ^ 32 - 1) ws r e)

pub corners-ok : (ws : List Word) (cs : List ℕ) → corners ws ≡ Ok cs → (length cs ≡ 4) × All (λ c. c < 2 ^ 32) cs
unfolding corners
corners-ok ws cs e =
    let a = bind-ok (index ws) (λ a. index a.1 >>= λ b. index b.1 >>= λ c. index c.1 >>= λ d. Ok (a.0 ∷ b.0 ∷ c.0 ∷ d.0 ∷ [])) cs e in
    let b = bind-ok (index (a.0).1) (λ b. index b.1 >>= λ c. index c.1 >>= λ d. Ok ((a.0).0 ∷ b.0 ∷ c.0 ∷ d.0 ∷ [])) cs a.2 in
    let c = bind-ok (index (b.0).1) (λ c. index c.1 >>= λ d. Ok ((a.0).0 ∷ (b.0).0 ∷ c.0 ∷ d.0 ∷ [])) cs b.2 in
    let d = bind-ok (index (c.0).1) (λ d. Ok ((a.0).0 ∷ (b.0).0 ∷ (c.0).0 ∷ d.0 ∷ [])) cs c.2 in
    let four : List ℕ = (a.0).0 ∷ (b.0).0 ∷ (c.0).0 ∷ (d.0).0 ∷ [] in
    let same : four ≡ cs = cc in
    let fa = index-ok ws a.0 a.1 in
    let fb = index-ok (a.0).1 b.0 b.1 in
    let fc = index-ok (b.0).1 c.0 c.1 in
    let fd = index-ok (c.0).1 d.0 d.1 in
    subst (λ (l : List ℕ). (length l ≡ 4) × All (λ c. c < 2 ^ 32) l) same (refl, All-from_recursion (λ c. c < 2 ^ 32) four (fa, (fb, (fc, (fd, tt)))))

area-ok : (lo hi : Place) (area : Area) → area_of lo hi ≡ Ok area → (area.lo ≡ lo) × (area.hi ≡ hi) × IsArea lo hi
area-ok lo hi area e = by (int_le lo.0 hi.0) (int_le lo.1 hi.1) (int_le lo.2 hi.2) refl refl refl e
  where
    by : (a b c : Bool) → int_le lo.0 hi.0 ≡ a → int_le lo.1 hi.1 ≡ b → int_le lo.2 hi.2 ≡ c
        → (let r : Result Area ScriptKind = cond (a && (b && c)) (Ok (record { lo = lo; hi = hi })) (Err kinds.Box) in r ≡ Ok area) → (area.lo ≡ lo) × (area.hi ≡ hi) × IsArea lo hi
    by true true true f g h e =
        let made : Area = record { lo = lo; hi = hi } in
        let same : made ≡ area = cc in
        (ap (λ (a : Area). a.lo) (sym same), ap (λ (a : Area). a.hi) (sym same), (grind (arith, ints), grind (arith, ints), grind (arith, ints)))
    by true true false f g h e = absurd (cc)
    by true false c f g h e = absurd (cc)
    by false b c f g h e = absurd (cc)

-- ---- what a row knows of the rows before it

pub record BeforeBox (at : Standing) (area : Area) : Type 0 where
  pub lo : IsPlace area.lo
  pub hi : IsPlace area.hi
  pub ordered : IsArea area.lo area.hi
  pub few : at.boxes < 100000

abbrev pub Checked : ℕ → Standing → Row → Type 0
Checked version at (row.Edit e) = IsEdit e.edit × (at.edits < 1000000)
Checked version at (row.Move k) = IsKernel k × (at.steps < 10000)
Checked version at row.Session = (at.sessions < 8) × (at.hold ≡ None)
Checked version at (row.Does (item.Wait line step)) = (step ≤ 10000) × (at.hold ≡ None)
Checked version at (row.Does (item.Ask area)) = BeforeBox at area
Checked version at (row.Does item.Hold) = (at.hold ≡ None) × (version ≢ 1)
Checked version at (row.Does item.Free) = (n : ℕ) × (at.hold ≡ Some n) × (0 < n)
Checked version at row.End = (at.hold ≡ None) × (at.edits_wait ≡ false)

-- ---- the checks

or-split : (a b : Bool) → (a || b) ≡ false → (a ≡ false) × (b ≡ false)
or-split true b e = absurd (cc)
or-split false b e = (refl, e)

-- the parts of the test of the order, from the first to the last
pub record InOrder (at : Standing) (c : Command) : Type 0 where
  pub edits : (at.in_sessions && (adds_edit c || adds_move c)) ≡ false
  pub items : (not at.in_sessions && adds_item c) ≡ false
  pub waits : (at.edits_wait && ends_steps c) ≡ false
  pub holds : (is_some at.hold && ends_turns c) ≡ false
  pub frees : (not (can_free at.hold) && is_free c) ≡ false
  pub ended : at.has_ended ≡ false

pub in_order : (at : Standing) (c : Command) → is_misplaced at c ≡ false → InOrder at c
in_order at c e =
    let six = or-split _ _ e in
    let five = or-split _ _ six.0 in
    let four = or-split _ _ five.0 in
    let three = or-split _ _ four.0 in
    let two = or-split _ _ three.0 in
    record { edits = two.0; items = two.1; waits = three.1; holds = four.1; frees = five.1; ended = six.1 }

no_hold : (h : Option ℕ) → (is_some h && true) ≡ false → h ≡ None
no_hold None e = refl
no_hold (Some n) e = absurd (cc)

some_hold : (h : Option ℕ) → (not (can_free h) && true) ≡ false → (n : ℕ) × (h ≡ Some n) × (0 < n)
some_hold None e = absurd (cc)
some_hold (Some n) e = by (nat_lt 0 n) refl e
  where
    by : (b : Bool) → nat_lt 0 n ≡ b → (not b && true) ≡ false → (m : ℕ) × (Some n ≡ Some m) × (0 < m)
    by true f e = (n, refl, ltb-true 0 n f)
    by false f e = absurd (cc)

and-true : (b : Bool) → (b && true) ≡ false → b ≡ false
and-true true e = absurd (cc)
and-true false e = refl

pub record Few (at : Standing) (c : Command) : Type 0 where
  pub moves : (adds_move c && nat_le 10000 at.steps) ≡ false
  pub edits : (adds_edit c && nat_le 1000000 at.edits) ≡ false
  pub sessions : (is_session_line c && nat_le 8 at.sessions) ≡ false
  pub boxes : (is_box_line c && nat_le 100000 at.boxes) ≡ false

few : (at : Standing) (c : Command) → is_one_too_many at c ≡ false → Few at c
few at c e =
    let four = or-split _ _ e in
    let three = or-split _ _ four.0 in
    let two = or-split _ _ three.0 in
    record { moves = two.0; edits = two.1; sessions = three.1; boxes = four.1 }

-- a hold is of version 2
abbrev HoldFits : ℕ → Command → Type 0
HoldFits version command.Hold = version ≢ 1
HoldFits version other = Unit {0}

abbrev is_hold_word : Command → Bool
is_hold_word command.Hold = true
is_hold_word other = false

spelled-in : (p : Command → Bool) (cs : List Command) (w : Word) (c : Command) → spelled cs w ≡ Ok c → list_any p cs ≡ false → p c ≡ false
spelled-in p [] w c e none = absurd (cc)
spelled-in p (d ∷ cs) w c e none = by (bytes_eq w (spelling d)) (λ f. spelled-in p cs w c f parts.1) e
  where
    parts : (p d ≡ false) × (list_any p cs ≡ false)
    parts = or-split (p d) (list_any p cs) none

    by : (b : Bool) → (spelled cs w ≡ Ok c → p c ≡ false) → cond b (Ok d) (spelled cs w) ≡ Ok c → p c ≡ false
    by true later f = let same : d ≡ c = cc in subst (λ (x : Command). p x ≡ false) same parts.0
    by false later f = later f

hold_fits : (version : ℕ) (w : Word) (c : Command) → spelled (commands version) w ≡ Ok c → HoldFits version c
hold_fits version w command.Hold e = λ one.
    let none : list_any is_hold_word (commands version) ≡ false = subst (λ (v : ℕ). list_any is_hold_word (commands v) ≡ false) (sym one) refl in
    let no : true ≡ false = spelled-in is_hold_word (commands version) w command.Hold e none in
    absurd (cc)
hold_fits version w command.Point e = tt
hold_fits version w command.Add e = tt
hold_fits version w command.Remove e = tt
hold_fits version w command.Split e = tt
hold_fits version w command.Stay e = tt
hold_fits version w command.Shift e = tt
hold_fits version w command.Pull e = tt
hold_fits version w command.Shake e = tt
hold_fits version w command.Relax e = tt
hold_fits version w command.Turn e = tt
hold_fits version w command.Session e = tt
hold_fits version w command.Wait e = tt
hold_fits version w command.Box e = tt
hold_fits version w command.Free e = tt
hold_fits version w command.End e = tt

row-same : (P : Row → Type 0) (q r : Row) → (let a : Result Row ScriptKind = Ok q in a ≡ Ok r) → P q → P r
row-same P q r e h = let same : q ≡ r = cc in subst P same h

checked-row : (version n : ℕ) (at : Standing) (c : Command) (values : List Word) (r : Row) → HoldFits version c → InOrder at c → Few at c → row_of n c values ≡ Ok r → Checked version at r
unfolding row_of
checked-row version n at command.Point values r v o f e =
    let p = bind-ok (place values) (λ p. Ok (row.Edit (record { line = n; edit = edit.Point p.0 }))) r e in
    row-same (Checked version at) _ r p.2 (place-ok values p.0 p.1, leb-false _ _ f.edits)
checked-row version n at command.Add values r v o f e =
    let p = bind-ok (corners values) (λ cs. Ok (row.Edit (record { line = n; edit = edit.Add cs }))) r e in
    row-same (Checked version at) _ r p.2 (corners-ok values p.0 p.1, leb-false _ _ f.edits)
checked-row version n at command.Remove values r v o f e =
    let p = bind-ok (index values) (λ i. Ok (row.Edit (record { line = n; edit = edit.Remove i.0 }))) r e in
    row-same (Checked version at) _ r p.2 (index-ok values p.0 p.1, leb-false _ _ f.edits)
checked-row version n at command.Split values r v o f e =
    let i = bind-ok (index values) (λ i. place i.1 >>= λ p. Ok (row.Edit (record { line = n; edit = edit.Split i.0 p.0 }))) r e in
    let p = bind-ok (place (i.0).1) (λ p. Ok (row.Edit (record { line = n; edit = edit.Split (i.0).0 p.0 }))) r i.2 in
    row-same (Checked version at) _ r p.2 ((index-ok values i.0 i.1, place-ok (i.0).1 p.0 p.1), leb-false _ _ f.edits)
checked-row version n at command.Stay values r v o f e = row-same (Checked version at) _ r e (tt, leb-false _ _ f.moves)
checked-row version n at command.Shift values r v o f e =
    let p = bind-ok (place values) (λ d. Ok (row.Move (kernel.Shift (d.0).0 (d.0).1 (d.0).2))) r e in
    row-same (Checked version at) _ r p.2 (place-ok values p.0 p.1, leb-false _ _ f.moves)
checked-row version n at command.Pull values r v o f e =
    let to = bind-ok (place values) (λ to. signed (neg_ℤ (pos 1024)) (pos 1024) to.1 >>= λ num. signed (pos 1) (pos 1024) num.1 >>= λ den. Ok (row.Move (kernel.Pull to.0 num.0 den.0))) r e in
    let num = bind-ok (signed (neg_ℤ (pos 1024)) (pos 1024) (to.0).1) (λ num. signed (pos 1) (pos 1024) num.1 >>= λ den. Ok (row.Move (kernel.Pull (to.0).0 num.0 den.0))) r to.2 in
    let den = bind-ok (signed (pos 1) (pos 1024) (num.0).1) (λ den. Ok (row.Move (kernel.Pull (to.0).0 (num.0).0 den.0))) r num.2 in
    let a = signed-ok (neg_ℤ (pos 1024)) (pos 1024) (to.0).1 num.0 num.1 in
    let b = signed-ok (pos 1) (pos 1024) (num.0).1 den.0 den.1 in
    row-same (Checked version at) _ r den.2 ((place-ok values to.0 to.1, a.0, a.1, b.0, b.1), leb-false _ _ f.moves)
checked-row version n at command.Shake values r v o f e =
    let seed = bind-ok (number 65535 values) (λ seed. number 1000 seed.1 >>= λ amp. Ok (row.Move (kernel.Shake seed.0 amp.0))) r e in
    let amp = bind-ok (number 1000 (seed.0).1) (λ amp. Ok (row.Move (kernel.Shake (seed.0).0 amp.0))) r seed.2 in
    row-same (Checked version at) _ r amp.2 ((number-ok 65535 values seed.0 seed.1, number-ok 1000 (seed.0).1 amp.0 amp.1), leb-false _ _ f.moves)
checked-row version n at command.Relax values r v o f e = row-same (Checked version at) _ r e (tt, leb-false _ _ f.moves)
checked-row version n at command.Turn values r v o f e =
    let a = bind-ok (axis_of values) (λ a. Ok (row.Move (kernel.Turn a))) r e in
    row-same (Checked version at) _ r a.2 (tt, leb-false _ _ f.moves)
checked-row version n at command.Session values r v o f e = row-same (Checked version at) _ r e (leb-false _ _ f.sessions, no_hold at.hold o.holds)
checked-row version n at command.Wait values r v o f e =
    let k = bind-ok (number 10000 values) (λ k. Ok (row.Does (item.Wait n k.0))) r e in
    row-same (Checked version at) _ r k.2 (number-ok 10000 values k.0 k.1, no_hold at.hold o.holds)
checked-row version n at command.Box values r v o f e =
    let lo = bind-ok (place values) (λ lo. place lo.1 >>= λ hi. area_of lo.0 hi.0 >>= λ area. Ok (row.Does (item.Ask area))) r e in
    let hi = bind-ok (place (lo.0).1) (λ hi. area_of (lo.0).0 hi.0 >>= λ area. Ok (row.Does (item.Ask area))) r lo.2 in
    let area = bind-ok (area_of (lo.0).0 (hi.0).0) (λ area. Ok (row.Does (item.Ask area))) r hi.2 in
    let p = area-ok (lo.0).0 (hi.0).0 area.0 area.1 in
    row-same (Checked version at) _ r area.2 (
    record {
      lo = subst IsPlace (sym p.0) (place-ok values lo.0 lo.1);
      hi = subst IsPlace (sym p.1) (place-ok (lo.0).1 hi.0 hi.1);
      ordered = rw (p.0, p.1) p.2;
      few = leb-false _ _ f.boxes;
    })
checked-row version n at command.Hold values r v o f e = row-same (Checked version at) _ r e (no_hold at.hold o.holds, v)
checked-row version n at command.Free values r v o f e = row-same (Checked version at) _ r e (some_hold at.hold o.frees)
checked-row version n at command.End values r v o f e = row-same (Checked version at) _ r e (no_hold at.hold o.holds, and-true at.edits_wait o.waits)

some-row : (o : Row) (r : Row) → (let a : Result (Option Row) ScriptKind = Ok (Some o) in a ≡ Ok (Some r)) → o ≡ r
some-row o r e = cc

pub checked : (version n : ℕ) (at : Standing) (ws : List Word) (r : Row) → row_of_line version n at ws ≡ Ok (Some r) → Checked version at r
unfolding row_of_line
checked version n at [] r e = absurd (cc)
checked version n at (w ∷ values) r e = by (is_comment w) e
  where
    inner : (c : Command) → spelled (commands version) w ≡ Ok c → checked_row n at values c ≡ Ok r → Checked version at r
    inner c named g =
        let o = unless-ok (is_misplaced at c) kinds.Order (cond (not (length values + 1 == words_of c)) (Err kinds.Word) (cond (is_one_too_many at c) (Err kinds.Limit) (row_of n c values))) r g in
        let k = unless-ok (not (length values + 1 == words_of c)) kinds.Word (cond (is_one_too_many at c) (Err kinds.Limit) (row_of n c values)) r o.1 in
        let l = unless-ok (is_one_too_many at c) kinds.Limit (row_of n c values) r k.1 in
        checked-row version n at c values r (hold_fits version w c named) (in_order at c o.0) (few at c l.0) l.1

    by : (b : Bool) → (let a : Result (Option Row) ScriptKind = cond b (Ok None) ((spelled (commands version) w >>= checked_row n at values) >>= some_row) in a ≡ Ok (Some r)) → Checked version at r
    by true f = absurd (cc)
    by false f =
        let q = bind-ok (spelled (commands version) w >>= checked_row n at values) some_row (Some r) f in
        let c = bind-ok (spelled (commands version) w) (checked_row n at values) q.0 q.1 in
        inner c.0 c.1 (c.2 ∙ ap (λ (x : Row). Ok x) (some-row q.0 r q.2))

-- a row comes only before the end
pub not_ended : (version n : ℕ) (at : Standing) (ws : List Word) (r : Row) → row_of_line version n at ws ≡ Ok (Some r) → at.has_ended ≡ false
unfolding row_of_line
not_ended version n at [] r e = absurd (cc)
not_ended version n at (w ∷ values) r e = by (is_comment w) e
  where
    by : (b : Bool) → (let a : Result (Option Row) ScriptKind = cond b (Ok None) ((spelled (commands version) w >>= checked_row n at values) >>= some_row) in a ≡ Ok (Some r)) → at.has_ended ≡ false
    by true f = absurd (cc)
    by false f =
        let q = bind-ok (spelled (commands version) w >>= checked_row n at values) some_row (Some r) f in
        let c = bind-ok (spelled (commands version) w) (checked_row n at values) q.0 q.1 in
        let o = unless-ok (is_misplaced at c.0) kinds.Order (cond (not (length values + 1 == words_of c.0)) (Err kinds.Word) (cond (is_one_too_many at c.0) (Err kinds.Limit) (row_of n c.0 values))) q.0 c.2 in
        (in_order at c.0 o.0).ended
