-- Parts that are spelled plainly, read one whole part at a time.
use Rattle.std.proofs.Common.{◌≡◌, ℕ, suc, ◌-◌, ◌<◌, ◌≤◌, Bool, true, false, List, [], ◌∷◌, length, Option, Some, None, Result, Ok, Err, refl, sym, ap, subst, ◌∙◌, arith}
use Rattle.std.specs.Prelude.{ℤ, ◌==◌, is_none, IsSome}
use Rattle.std.specs.Str.Parse.{digits_value}
use Rattle.std.proofs.lemmas.Bool.{lt-ltb, le-ltb, le-leb, ne_eqb}
use Rattle.mesh_base.specs.Mesh.{Corners}
use Rattle.oct_text.specs.Rest.{Left, Token, Rest, continued, MayCome}
use Rattle.oct_text.specs.Numbers.{is_numeral, count_of, coordinate_of}
use Rattle.oct_text.specs.Taken.{Takes}
use Rattle.oct_text.specs.Ahead.{TakesCount, TakesCounts, TakesWhole, TakesWholes}
use Rattle.vtk_legacy.specs.declared.fault.MeshFault.{MeshFault}
use Rattle.vtk_legacy.specs.declared.gathered.CellRow.{CellRow}
use Rattle.vtk_legacy.specs.declared.gathered.Filling.{Filling}
use Rattle.vtk_legacy.specs.declared.stage.Stage.{Stage}
use Rattle.vtk_legacy.specs.declared.stage.Stage.TheVariants as stage
use Rattle.vtk_legacy.specs.MeshText.{Read, Row, most_count, coordinate_taken, indexed, indices, head_taken, offset_taken}
use Rattle.vtk_legacy.specs.Kept.{Parts, Waiting, AreBelow, with_points, with_sizes, with_rows, ended, empty_row, filled, no_corners, first_row, typed_kept, with_first_kept, filling_after, got_after}
use Rattle.vtk_legacy.specs.Outcome.{IsFault}
use Rattle.vtk_legacy.specs.Machine.{Outcome, goes_on, taking, in_places, in_row, in_heads, in_types, in_offsets, in_filling, Keeps, SameText, Passes, FaultsWith, Advances}
use Rattle.vtk_legacy.proofs.Advance.{took}
use Rattle.vtk_legacy.proofs.TokenStep.{goes_on-token}
use Rattle.vtk_legacy.proofs.CellLemmas.{fill_last-row}
use Rattle.vtk_legacy.proofs.KeptTypes.{corners-four}

-- ---- one after another

may_still : (r r' : Rest) (more : List ℕ) → r'.ended ≡ r.ended → MayCome r more → MayCome r' more
may_still r r' more e none = λ ended. none (sym e ∙ ended)

keeps_on : (a b c : Stage) (g g' g'' : Parts) (r r' r'' : Rest) → r'.ended ≡ r.ended → Keeps a g r b g' r' → Keeps b g' r' c g'' r'' → Keeps a g r c g'' r''
keeps_on a b c g g' g'' r r' r'' e first second more none = first more none ∙ second more (may_still r r' more e none)

text_on : (r r' r'' : Rest) → SameText r r' → SameText r' r'' → SameText r r''
text_on r r' r'' first second = record { ended = second.ended ∙ first.ended; end = second.end ∙ first.end }

pub passes_on : (a b c : Stage) (g g' g'' : Parts) (r r' r'' : Rest) → Passes a g r b g' r' → Passes b g' r' c g'' r'' → Passes a g r c g'' r''
passes_on a b c g g' g'' r r' r'' first second =
    (keeps_on a b c g g' g'' r r' r'' first.2.ended first.0 second.0, omega (arith, first.1, second.1), text_on r r' r'' first.2 second.2)

pub fails_on : (a b : Stage) (g g' : Parts) (r r' r'' : Rest) (e : MeshFault) → Passes a g r b g' r' → FaultsWith b g' r' e × SameText r' r'' → FaultsWith a g r e × SameText r r''
fails_on a b g g' r r' r'' e first second =
    (λ more none. subst (λ (x : Outcome). IsFault e x) (sym (first.0 more none)) (second.0 more (may_still r r' more first.2.ended none)), text_on r r' r'' first.2 second.1)

-- ---- what was taken

abbrev IsBehind : Rest → Rest → Type 0
IsBehind r r' = (length r'.bytes ≤ length r.bytes) × SameText r r'

behind_none : (r r' : Rest) → r' ≡ r → IsBehind r r'
behind_none r r' e = subst (λ (x : Rest). IsBehind r x) (sym e) (omega arith, record { ended = refl; end = refl })

behind_one : (r r' r'' : Rest) (t : Token) → Takes r t r' → IsBehind r' r'' → IsBehind r r''
behind_one r r' r'' t takes h =
    (omega (arith, takes.shorter, h.0), record { ended = h.1.ended ∙ takes.ended; end = h.1.end ∙ takes.end })

counts_behind : (ns : List ℕ) (r r' : Rest) → TakesCounts r ns r' → IsBehind r r'
counts_behind [] r r' h = behind_none r r' h
counts_behind (n ∷ ns) r r' h = behind_one r h.0 r' h.1.token h.1.takes (counts_behind ns h.0 r' h.2)

wholes_behind : (zs : List ℤ) (r r' : Rest) → TakesWholes r zs r' → IsBehind r r'
wholes_behind [] r r' h = behind_none r r' h
wholes_behind (z ∷ zs) r r' h = behind_one r h.0 r' h.1.token h.1.takes (wholes_behind zs h.0 r' h.2)

one_less : (m : ℕ) → 0 < m → m ≡ suc (m - 1)
one_less m lt = omega (arith, lt)

-- ---- points

whole_is : (t : Token × Left) (z : ℤ) → coordinate_of t.0.text ≡ Ok z → coordinate_taken t ≡ Ok (z, t.1)
whole_is t z e = rw e refl

places_left : (m : ℕ) (got : Parts) (l : Left) → 0 < m → in_places m got l ≡ goes_on (stage.PointX (m - 1)) got l
unfolding goes_on
places_left m got l lt = ap (λ (k : ℕ). in_places k got l) (one_less m lt)

point_x : (m : ℕ) (got : Parts) (r r' : Rest) (x : ℤ) → TakesWhole r x r' → Keeps (stage.PointX m) got r (stage.PointY m x) got r'
unfolding goes_on taking
point_x m got r r' x h = took (stage.PointX m) (stage.PointY m x) got got r r' h.token tt h.takes (λ after. rw (whole_is (h.token, after) x h.value) refl)

point_y : (m : ℕ) (got : Parts) (r r' : Rest) (x y : ℤ) → TakesWhole r y r' → Keeps (stage.PointY m x) got r (stage.PointZ m x y) got r'
unfolding goes_on taking
point_y m got r r' x y h = took (stage.PointY m x) (stage.PointZ m x y) got got r r' h.token tt h.takes (λ after. rw (whole_is (h.token, after) y h.value) refl)

point_z : (m : ℕ) (got : Parts) (r r' : Rest) (x y z : ℤ) → 0 < m → TakesWhole r z r' → Keeps (stage.PointZ m x y) got r (stage.PointX (m - 1)) (with_points ((x, y, z) ∷ []) got) r'
unfolding taking
point_z m got r r' x y z lt h =
    took (stage.PointZ m x y) (stage.PointX (m - 1)) got (with_points ((x, y, z) ∷ []) got) r r' h.token tt h.takes
    (λ after. rw (whole_is (h.token, after) z h.value) (places_left m (with_points ((x, y, z) ∷ []) got) after lt))

pub point_passes : (m : ℕ) (got : Parts) (r r' : Rest) (x y z : ℤ) → 0 < m → TakesWholes r (x ∷ y ∷ z ∷ []) r' → Passes (stage.PointX m) got r (stage.PointX (m - 1)) (with_points ((x, y, z) ∷ []) got) r'
point_passes m got r r' x y z lt h =
    let new = with_points ((x, y, z) ∷ []) got in
    let first = h.1 in
    let second = h.2.1 in
    let last : TakesWhole h.2.0 z r' = subst (λ (q : Rest). TakesWhole h.2.0 z q) (sym h.2.2.2) h.2.2.1 in
    let behind = wholes_behind (x ∷ y ∷ z ∷ []) r r' h in (
      keeps_on (stage.PointX m) (stage.PointY m x) (stage.PointX (m - 1)) got got new r h.0 r' first.takes.ended (point_x m got r h.0 x first)
          (keeps_on (stage.PointY m x) (stage.PointZ m x y) (stage.PointX (m - 1)) got got new h.0 h.2.0 r' second.takes.ended (point_y m got h.0 h.2.0 x y second) (point_z m got h.2.0 r' x y z lt last)),
      behind.0,
      behind.1,
    )

-- ---- cells of four points

indexed_is : (n p : ℕ) (t : Token × Left) → is_numeral t.0.text ≡ true → digits_value 10 t.0.text ≡ p → p < n → indexed n t ≡ Ok (p, t.1)
indexed_is n p t numeral value lt = rw (numeral, value, lt-ltb p n lt) refl

indices_are : (n : ℕ) (ns : List ℕ) (r r' : Rest) (more : List ℕ) → AreBelow n ns → TakesCounts r ns r' → MayCome r more → indices n (length ns) (continued r more) ≡ Ok (ns, continued r' more)
unfolding indices
indices_are n [] r r' more below h none = ap (λ (x : Rest). let y : Read Row = Ok ([], continued x more) in y) (sym h)
indices_are n (p ∷ ps) r r' more below h none =
    let rest = indices_are n ps h.0 r' more below.1 h.2 (may_still r h.0 more h.1.takes.ended none) in
    rw (h.1.takes.again more none, indexed_is n p (h.1.token, continued h.0 more) h.1.numeral h.1.value below.0, rest) refl

head_is : (room : ℕ) (t : Token × Left) → 5 ≤ room → is_numeral t.0.text ≡ true → digits_value 10 t.0.text ≡ 4 → head_taken room t ≡ Ok (4, t.1)
unfolding count_of
head_is room t le numeral value = rw (numeral, value, le-ltb room 5 le) refl

row_is : (m room place : ℕ) (ps : List ℕ) (got : Parts) (l l' : Left) → length ps ≡ 4 → indices got.number 4 l ≡ Ok (ps, l')
    → in_row (empty_row 4) 4 m room place got l ≡ in_heads m room place (with_rows (ended (record { count = 4; corners = ps }) ∷ []) got) l'
unfolding in_row
row_is m room place ps got l l' four e =
    let same : record { count = length ps; corners = filled 0 ps no_corners } ≡ record { count = 4; corners = ps } = rw (four, corners-four ps four) refl in
    let row = fill_last-row 4 ps four ∙ ap (λ (r : CellRow). ended r) same in
    rw e (ap (λ (row : Waiting). in_heads m room place (with_rows (row ∷ []) got) l') row)

heads_left : (m room place : ℕ) (got : Parts) (l : Left) → 0 < m → in_heads m room place got l ≡ goes_on (stage.CellHead (m - 1) room place) got l
unfolding goes_on
heads_left m room place got l lt = ap (λ (k : ℕ). in_heads k room place got l) (one_less m lt)

four_taken : (m room place : ℕ) (got : Parts) (t : Token × Left) → 5 ≤ room → is_numeral t.0.text ≡ true → digits_value 10 t.0.text ≡ 4
    → taking (stage.CellHead m room place) got t ≡ in_row (empty_row 4) 4 m (room - 5) place got t.1
unfolding taking
four_taken m room place got t le numeral value = rw (head_is room t le numeral value) refl

four_keeps : (m room place : ℕ) (got : Parts) (r r' : Rest) (ps : List ℕ) → 0 < m → 5 ≤ room → length ps ≡ 4 → AreBelow got.number ps → TakesCounts r (4 ∷ ps) r'
    → Keeps (stage.CellHead m room place) got r (stage.CellHead (m - 1) (room - 5) place) (with_rows (ended (record { count = 4; corners = ps }) ∷ []) got) r'
four_keeps m room place got r r' ps lt le four below h more none =
    let l = continued h.0 more in
    let numbers = indices_are got.number ps h.0 r' more below h.2 (may_still r h.0 more h.1.takes.ended none) in
    let numbers' : indices got.number 4 l ≡ Ok (ps, continued r' more) = subst (λ (k : ℕ). indices got.number k l ≡ Ok (ps, continued r' more)) four numbers in
    goes_on-token (stage.CellHead m room place) got (continued r more) (h.1.token, l) tt (h.1.takes.again more none)
    ∙ four_taken m room place got (h.1.token, l) le h.1.numeral h.1.value
    ∙ row_is m (room - 5) place ps got l (continued r' more) four numbers'
    ∙ heads_left m (room - 5) place (with_rows (ended (record { count = 4; corners = ps }) ∷ []) got) (continued r' more) lt

pub four_passes : (m room place : ℕ) (got : Parts) (r r' : Rest) (ps : List ℕ) → 0 < m → 5 ≤ room → length ps ≡ 4 → AreBelow got.number ps → TakesCounts r (4 ∷ ps) r'
    → Passes (stage.CellHead m room place) got r (stage.CellHead (m - 1) (room - 5) place) (with_rows (ended (record { count = 4; corners = ps }) ∷ []) got) r'
four_passes m room place got r r' ps lt le four below h =
    let behind = counts_behind (4 ∷ ps) r r' h in
    (four_keeps m room place got r r' ps lt le four below h, behind.0, behind.1)

-- ---- types

some_is : (cell : Option Corners) → IsSome cell → is_none cell ≡ false
some_is None h = absurd cc
some_is (Some c) h = refl

ten_is : (row : Waiting) (t : Token × Left) → is_numeral t.0.text ≡ true → digits_value 10 t.0.text ≡ 10 → row.size ≡ 4 → IsSome row.cell → typed_kept row t ≡ Ok (10, t.1)
ten_is row t numeral value four some = rw (numeral, value, four, some_is row.cell some) refl

types_left : (m : ℕ) (got : Parts) (l : Left) → 0 < m → in_types m got l ≡ goes_on (stage.CellType (m - 1)) got l
unfolding goes_on
types_left m got l lt = ap (λ (k : ℕ). in_types k got l) (one_less m lt)

ten_keeps : (m : ℕ) (got : Parts) (r r' : Rest) → 0 < m → (first_row got.rows).size ≡ 4 → IsSome (first_row got.rows).cell → TakesCount r 10 r'
    → Keeps (stage.CellType m) got r (stage.CellType (m - 1)) (with_first_kept got) r'
unfolding taking
ten_keeps m got r r' lt four some h =
    took (stage.CellType m) (stage.CellType (m - 1)) got (with_first_kept got) r r' h.token tt h.takes
    (λ after. rw (ten_is (first_row got.rows) (h.token, after) h.numeral h.value four some) (types_left m (with_first_kept got) after lt))

pub ten_passes : (m : ℕ) (got : Parts) (r r' : Rest) → 0 < m → (first_row got.rows).size ≡ 4 → IsSome (first_row got.rows).cell → TakesCount r 10 r'
    → Passes (stage.CellType m) got r (stage.CellType (m - 1)) (with_first_kept got) r'
ten_passes m got r r' lt four some h =
    let behind = behind_one r r' r' h.token h.takes (behind_none r' r' refl) in
    (ten_keeps m got r r' lt four some h, behind.0, behind.1)

-- ---- a step behind what was read on

pub advances_on : (a b c : Stage) (g g' g'' : Parts) (r r' r'' : Rest) (result : Result Bool MeshFault) → Passes a g r b g' r' → Advances b g' r' result c g'' r'' → Advances a g r result c g'' r''
advances_on a b c g g' g'' r r' r'' (Ok true) first second =
    (keeps_on a b c g g' g'' r r' r'' first.2.ended first.0 second.0, omega (arith, first.1, second.1), text_on r r' r'' first.2 second.2)
advances_on a b c g g' g'' r r' r'' (Ok false) first second =
    (keeps_on a b c g g' g'' r r' r'' first.2.ended first.0 second.0, second.1, text_on r r' r'' first.2 second.2)
advances_on a b c g g' g'' r r' r'' (Err e) first second = fails_on a b g g' r r' r'' e first second

-- ---- offsets and point numbers of version 5.1

offset_is : (before numbers o : ℕ) (t : Token × Left) → before ≤ o → o ≤ numbers → o ≤ most_count → is_numeral t.0.text ≡ true → digits_value 10 t.0.text ≡ o → offset_taken false false before numbers t ≡ Ok (o, t.1)
unfolding count_of
offset_is before numbers o t low high most numeral value = rw (numeral, value, le-leb o most_count most, le-leb before o low, le-leb o numbers high) refl

not_last : (m : ℕ) → 0 < m → (m == 0) ≡ false
not_last m lt = ne_eqb m 0 (λ e. omega (arith, e, lt))

offsets_on : (m o numbers : ℕ) (got : Parts) (l : Left) → 0 < m → in_offsets m false o numbers got l ≡ goes_on (stage.Offset (m - 1) false o numbers) got l
unfolding goes_on
offsets_on m o numbers got l lt = ap (λ (k : ℕ). in_offsets k false o numbers got l) (one_less m lt)

offset_keeps : (m before numbers o : ℕ) (got : Parts) (r r' : Rest) → 0 < m → before ≤ o → o ≤ numbers → numbers ≤ most_count → TakesCount r o r'
    → Keeps (stage.Offset m false before numbers) got r (stage.Offset (m - 1) false o numbers) (with_sizes ((o - before) ∷ []) got) r'
unfolding taking
offset_keeps m before numbers o got r r' lt low high most h =
    let new = with_sizes ((o - before) ∷ []) got in
    took (stage.Offset m false before numbers) (stage.Offset (m - 1) false o numbers) got new r r' h.token tt h.takes
    (λ after. rw (not_last m lt, offset_is before numbers o (h.token, after) low high (omega (arith, high, most)) h.numeral h.value) (offsets_on m o numbers new after lt))

pub offset_passes : (m before numbers o : ℕ) (got : Parts) (r r' : Rest) → 0 < m → before ≤ o → o ≤ numbers → numbers ≤ most_count → TakesCount r o r'
    → Passes (stage.Offset m false before numbers) got r (stage.Offset (m - 1) false o numbers) (with_sizes ((o - before) ∷ []) got) r'
offset_passes m before numbers o got r r' lt low high most h =
    let behind = behind_one r r' r' h.token h.takes (behind_none r' r' refl) in
    (offset_keeps m before numbers o got r r' lt low high most h, behind.0, behind.1)

numbers_on : (m : ℕ) (f : Filling) (got : Parts) (l : Left) → 0 < m → in_filling m f got l ≡ goes_on (stage.Number (m - 1) f) got l
unfolding goes_on
numbers_on m f got l lt = ap (λ (k : ℕ). in_filling k f got l) (one_less m lt)

number_keeps : (m p : ℕ) (f : Filling) (got : Parts) (r r' : Rest) → 0 < m → p < got.number → TakesCount r p r'
    → Keeps (stage.Number m f) got r (stage.Number (m - 1) (filling_after f p got.sizes)) (got_after f got) r'
unfolding taking
number_keeps m p f got r r' lt below h =
    let after-f = filling_after f p got.sizes in
    took (stage.Number m f) (stage.Number (m - 1) after-f) got (got_after f got) r r' h.token tt h.takes
    (λ after. rw (indexed_is got.number p (h.token, after) h.numeral h.value below) (numbers_on m after-f (got_after f got) after lt))

pub number_passes : (m p : ℕ) (f : Filling) (got : Parts) (r r' : Rest) → 0 < m → p < got.number → TakesCount r p r'
    → Passes (stage.Number m f) got r (stage.Number (m - 1) (filling_after f p got.sizes)) (got_after f got) r'
number_passes m p f got r r' lt below h =
    let behind = behind_one r r' r' h.token h.takes (behind_none r' r' refl) in
    (number_keeps m p f got r r' lt below h, behind.0, behind.1)
