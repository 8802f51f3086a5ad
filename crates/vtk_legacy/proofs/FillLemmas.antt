-- Rows that are filled one number after another are the numbers cut by the offsets.
use Rattle.std.proofs.Common.{◌≡◌, ℕ, zero, suc, ◌+◌, ◌-◌, ◌<◌, ◌≤◌, Bool, true, false, cond, List, [], ◌∷◌, ◌++◌, length, map, take, drop, Ok, Err, refl, sym, ap, ◌∙◌, arith, subst}
use Rattle.std.specs.Prelude.{◌&&◌, ◌==◌, nat_le}
use Rattle.std.proofs.lemmas.Bool.{lt-ltb, le-ltb, leb-true, eqb-true}
use Rattle.std.proofs.lemmas.List.{length-take, length-drop, take-append-drop, drop-drop}
use Rattle.oct_text.specs.Rest.{Left}
use Rattle.vtk_legacy.specs.declared.gathered.CellRow.{CellRow}
use Rattle.vtk_legacy.specs.declared.gathered.Filling.{Filling}
use Rattle.vtk_legacy.specs.MeshText.{Fault, ◌>>=◌, Read, Row, token, count_taken, most_count, offsets, offset_taken, offset_sized, offset_fits, rows_from, rows_of, with_first}
use Rattle.vtk_legacy.specs.Kept.{Waiting, kept, ended, bare, empty_row, filled, no_corners, put_from, begin_from, fresh, filled_here, next_size, behind_next, passed, offset_sizes, with_corner}
use Rattle.vtk_legacy.proofs.StepLemmas.{bind_ok}

abbrev filling : CellRow → ℕ → Filling
filling row at = record { row = row; at = at }

-- ---- numbers go into a row

put_here : (f : Filling) (p : ℕ) (ps sizes : List ℕ) → f.at < f.row.count → put_from f (p ∷ ps) sizes ≡ put_from (filled_here f p) ps sizes
unfolding put_from
put_here f p ps sizes lt = rw (lt-ltb f.at f.row.count lt) refl

-- the numbers of a row go into it
fill_row : (ps : List ℕ) (r : CellRow) (at : ℕ) (ns sizes : List ℕ) → at + length ps ≡ r.count
    → put_from (filling r at) (ps ++ ns) sizes ≡ put_from (filling (record { count = r.count; corners = filled at ps r.corners }) r.count) ns sizes
fill_row [] r at ns sizes e = ap (λ (n : ℕ). put_from (filling r n) ns sizes) (omega (arith, e))
fill_row (p ∷ ps) r at ns sizes e = put_here (filling r at) p (ps ++ ns) sizes (omega (arith, e)) ∙ fill_row ps (with_corner r at p) (at + 1) ns sizes (omega (arith, e))

-- the rows behind a full one
abbrev more_rows : List ℕ → List ℕ → List Waiting
more_rows [] sizes = map bare sizes
more_rows (p ∷ ps) sizes = passed sizes ++ put_from (filled_here (fresh (next_size sizes)) p) ps (behind_next sizes)

-- a full row is behind
pass_on : (r : CellRow) (ns sizes : List ℕ) → put_from (filling r r.count) ns sizes ≡ ended r ∷ more_rows ns sizes
unfolding put_from
pass_on r [] sizes = refl
pass_on r (p ∷ ps) sizes = rw (le-ltb r.count r.count (omega arith)) refl

-- a row without points is behind
pass_bare : (ns sizes : List ℕ) → more_rows ns (0 ∷ sizes) ≡ bare 0 ∷ more_rows ns sizes
pass_bare [] sizes = refl
pass_bare (p ∷ ps) sizes = refl

-- ---- rows one after another

-- the numbers, cut at the offsets behind this one
abbrev cut : ℕ → List ℕ → List ℕ → List Row
cut before [] ns = []
cut before (o ∷ os) ns = take (o - before) ns ∷ cut o os (drop (o - before) ns)

-- offsets that never fall, from this one up to b
abbrev Climbs : ℕ → ℕ → List ℕ → Type 0
Climbs before b [] = before ≡ b
Climbs before b (o ∷ os) = (before ≤ o) × (o ≤ b) × Climbs o b os

no_numbers : (ns : List ℕ) → length ns ≡ 0 → more_rows ns [] ≡ []
no_numbers [] e = refl
no_numbers (n ∷ ns) e = absurd (omega (arith, e))

-- a row with points gets its numbers
some_points : (k : ℕ) (ns sizes : List ℕ) → suc k ≤ length ns → more_rows ns (suc k ∷ sizes) ≡ kept (take (suc k) ns) ∷ more_rows (drop (suc k) ns) sizes
some_points k [] sizes le = absurd (omega (arith, le))
some_points k (p ∷ ps) sizes le =
    let ns : List ℕ = p ∷ ps in
    let r = empty_row (suc k) in
    let front : length (take (suc k) ns) ≡ suc k = omega (arith, length-take (suc k) ns, le) in
    sym (put_here (filling r 0) p ps sizes (omega arith))
    ∙ ap (λ (xs : List ℕ). put_from (filling r 0) xs sizes) (sym (take-append-drop (suc k) ns))
    ∙ fill_row (take (suc k) ns) r 0 (drop (suc k) ns) sizes (omega (arith, front))
    ∙ ap (λ (n : ℕ). put_from (filling (record { count = n; corners = filled 0 (take (suc k) ns) no_corners }) n) (drop (suc k) ns) sizes) (sym front)
    ∙ pass_on (record { count = length (take (suc k) ns); corners = filled 0 (take (suc k) ns) no_corners }) (drop (suc k) ns) sizes

fill_one : (k : ℕ) (ns sizes : List ℕ) → k ≤ length ns → more_rows ns (k ∷ sizes) ≡ kept (take k ns) ∷ more_rows (drop k ns) sizes
fill_one zero ns sizes le = pass_bare ns sizes
fill_one (suc k) ns sizes le = some_points k ns sizes le

fill : (os : List ℕ) (before b : ℕ) (ns : List ℕ) → Climbs before b os → length ns ≡ b - before → more_rows ns (offset_sizes false before os) ≡ map kept (cut before os ns)
unfolding offset_sizes
fill [] before b ns climbs len = no_numbers ns (omega (arith, climbs, len))
fill (o ∷ os) before b ns climbs len =
    let k = o - before in
    fill_one k ns (offset_sizes false o os) (omega (arith, len, climbs.0, climbs.1))
    ∙ ap (λ (rows : List Waiting). kept (take k ns) ∷ rows) (fill os o b (drop k ns) climbs.2 (omega (arith, length-drop k ns, len, climbs.0, climbs.1)))

-- the rows between the offsets are the numbers, cut
rows-cut : (os : List ℕ) (before b : ℕ) (numbers : List ℕ) → Climbs before b os → rows_from numbers before os ≡ cut before os (drop before numbers)
rows-cut [] before b numbers climbs = refl
rows-cut (o ∷ os) before b numbers climbs =
    let behind : drop (o - before) (drop before numbers) ≡ drop o numbers = drop-drop (o - before) before numbers ∙ ap (λ (n : ℕ). drop n numbers) (omega (arith, climbs.0)) in
    rw behind (ap (λ (rows : List Row). take (o - before) (drop before numbers) ∷ rows) (rows-cut os o b numbers climbs.2))

-- ---- what offsets that were read are

both : (x y : Bool) → (x && y) ≡ true → (x ≡ true) × (y ≡ true)
both true y e = (refl, e)
both false y e = absurd cc

sized_where : (fits : Bool) (o x : ℕ × Left) (f : Fault) → cond {A = Read ℕ} fits (Ok o) (Err f) ≡ Ok x → (fits ≡ true) × (o ≡ x)
sized_where true o x f e = (refl, cc)
sized_where false o x f e = absurd cc

offset-good : (first last : Bool) (before b : ℕ) (l : Left) (x : ℕ × Left) → (token l >>= offset_taken first last before b) ≡ Ok x → offset_fits first last before b x.0 ≡ true
offset-good first last before b l x e =
    let t = bind_ok (token l) (offset_taken first last before b) x e in
    let o = bind_ok (count_taken most_count t.0) (offset_sized first last before b t.0) x t.2 in
    let good = sized_where (offset_fits first last before b o.0.0) o.0 x _ o.2 in
    ap (λ (y : ℕ × Left). offset_fits first last before b y.0) (sym good.1) ∙ good.0

later-fits : (last : Bool) (before b o : ℕ) → offset_fits false last before b o ≡ true → (before ≤ o) × (o ≤ b)
later-fits last before b o e =
    let x = both (nat_le before o && nat_le o b) (cond last (o == b) true) e in
    let y = both (nat_le before o) (nat_le o b) x.0 in
    (leb-true before o y.0, leb-true o b y.1)

first-fits : (last : Bool) (before b o : ℕ) → offset_fits true last before b o ≡ true → (o ≡ 0) × (o ≤ b)
first-fits last before b o e =
    let x = both ((o == 0) && nat_le o b) (cond last (o == b) true) e in
    let y = both (o == 0) (nat_le o b) x.0 in
    (eqb-true o 0 y.0, leb-true o b y.1)

last-fits : (first : Bool) (before b o : ℕ) → offset_fits first true before b o ≡ true → o ≡ b
last-fits first before b o e = eqb-true o b (both (cond first (o == 0) (nat_le before o) && nat_le o b) (o == b) e).1

last-at : (k : ℕ) (first : Bool) (before b o : ℕ) → k ≡ 0 → offset_fits first (k == 0) before b o ≡ true → o ≡ b
last-at k first before b o none good = last-fits first before b o (rw none at good)

ok_first : (y x : List ℕ × Left) → (let r : Read (List ℕ) = Ok y in r) ≡ Ok x → y.0 ≡ x.0
ok_first y x e = let h : y ≡ x = cc in ap (λ (z : List ℕ × Left). z.0) h

climbs : (k before b : ℕ) (l : Left) (x : List ℕ × Left) → offsets k false before b l ≡ Ok x → (k ≡ 0 → before ≡ b) → Climbs before b x.0
unfolding offsets
climbs zero before b l x e done = subst (Climbs before b) (ok_first ([], l) x e) (done refl)
climbs (suc k) before b l x e done =
    let o = bind_ok (token l >>= offset_taken false (k == 0) before b) (λ o. offsets k false o.0 b o.1 >>= with_first o.0) x e in
    let os = bind_ok (offsets k false o.0.0 b o.0.1) (with_first o.0.0) x o.2 in
    let good = offset-good false (k == 0) before b l o.0 o.1 in
    let fits = later-fits (k == 0) before b o.0.0 good in
    let rest = climbs k o.0.0 b o.0.1 os.0 os.1 (λ none. last-at k false before b o.0.0 none good) in
    subst (Climbs before b) (ok_first (o.0.0 ∷ os.0.0, os.0.1) x os.2) (fits.0, fits.1, rest)

-- offsets from 0 on
abbrev ClimbsFromZero : ℕ → List ℕ → Type 0
ClimbsFromZero b [] = ⊥
ClimbsFromZero b (o ∷ os) = (o ≡ 0) × Climbs o b os

climbs_first : (k b : ℕ) (l : Left) (x : List ℕ × Left) → offsets (suc k) true 0 b l ≡ Ok x → ClimbsFromZero b x.0
unfolding offsets
climbs_first k b l x e =
    let o = bind_ok (token l >>= offset_taken true (k == 0) 0 b) (λ o. offsets k false o.0 b o.1 >>= with_first o.0) x e in
    let os = bind_ok (offsets k false o.0.0 b o.0.1) (with_first o.0.0) x o.2 in
    let good = offset-good true (k == 0) 0 b l o.0 o.1 in
    let fits = first-fits (k == 0) 0 b o.0.0 good in
    let rest = climbs k o.0.0 b o.0.1 os.0 os.1 (λ none. last-at k true 0 b o.0.0 none good) in
    subst (ClimbsFromZero b) (ok_first (o.0.0 ∷ os.0.0, os.0.1) x os.2) (fits.0, rest)

-- where numbers come, some row has points
next_some : (k : ℕ) (sizes : List ℕ) → (k ≡ 0 → 0 < next_size sizes) → 0 < next_size (k ∷ sizes)
next_some zero sizes h = h refl
next_some (suc k) sizes h = omega arith

some_size : (os : List ℕ) (before b : ℕ) → Climbs before b os → before < b → 0 < next_size (offset_sizes false before os)
unfolding offset_sizes
some_size [] before b climbs lt = absurd (omega (arith, climbs, lt))
some_size (o ∷ os) before b climbs lt = next_some (o - before) (offset_sizes false o os) (λ none. some_size os o b climbs.2 (omega (arith, none, climbs.0, lt)))

-- the first row begins
begun : (ns sizes : List ℕ) → (0 < length ns → 0 < next_size sizes) → begin_from ns sizes ≡ more_rows ns sizes
begun [] sizes some = refl
begun (p ∷ ps) sizes some = ap (λ (rows : List Waiting). passed sizes ++ rows) (put_here (fresh (next_size sizes)) p ps (behind_next sizes) (some (omega arith)))

by_offsets : (os numbers : List ℕ) (b : ℕ) → ClimbsFromZero b os → length numbers ≡ b → begin_from numbers (offset_sizes true 0 os) ≡ map kept (rows_of numbers os)
unfolding offset_sizes
by_offsets [] numbers b none len = absurd none
by_offsets (o ∷ os) numbers b from len =
    begun numbers (offset_sizes false o os) (λ some. some_size os o b from.1 (omega (arith, from.0, len, some)))
    ∙ fill os o b numbers from.1 (omega (arith, from.0, len))
    ∙ ap (map kept) (ap (λ (n : ℕ). cut o os (drop n numbers)) (sym from.0) ∙ sym (rows-cut os o b numbers from.1))

no_rows : (ns : List ℕ) → length ns ≡ 0 → begin_from ns [] ≡ []
no_rows [] e = refl
no_rows (n ∷ ns) e = absurd (omega (arith, e))

pub filled-cut : (a b : ℕ) (l : Left) (os : List ℕ × Left) (numbers : List ℕ) → (a ≡ 0 → b ≡ 0) → offsets a true 0 b l ≡ Ok os → length numbers ≡ b → begin_from numbers (offset_sizes true 0 os.0) ≡ map kept (rows_of numbers os.0)
unfolding offsets offset_sizes
filled-cut zero b l os numbers none e len =
    subst (λ (xs : List ℕ). begin_from numbers (offset_sizes true 0 xs) ≡ map kept (rows_of numbers xs)) (ok_first ([], l) os e) (no_rows numbers (len ∙ none refl))
filled-cut (suc k) b l os numbers none e len = by_offsets os.0 numbers b (climbs_first k b l os e) len
