-- counting corners, and placing cells in rows
use Rattle.std.proofs.Common.{◌≡◌, ◌≢◌, ℕ, zero, suc, ◌+◌, ◌-◌, ◌*◌, ◌<◌, ◌≤◌, ◌⊎◌, inl, inr, List, [], ◌∷◌, ◌++◌, length, get_or, set, map, take, drop, ◌^◌, Option, Some, None, option_and_then, refl, sym, ap, subst, ◌∙◌, arith, length-append, length-set, length-drop, length-take, get_or-set_same, get_or-set_other}
use Rattle.std.proofs.lemmas.Bool.{cases_lt, cases_eq}
use Rattle.std.proofs.lemmas.List.{append-nil, append_assoc, length-map, take-append-drop, map-append, map_more, take_all, drop_all, get_or_append_left, get_or_push, get_or-take, get_or-drop, length-take-le, same_lists, get_or_default}
use Rattle.std.proofs.lemmas.Option.{slice_get-get_or}
use Rattle.std.specs.List.{range_with_len}
use Rattle.mesh_base.specs.Edit.{cell_at}
use Rattle.mesh_base.specs.Mesh.{Corners, AreWithin, AreAllDifferent}
use Rattle.cell_box.specs.Cells.{cells_with, rows_of}
use Rattle.cell_box.specs.Rows.{Corner, corners_at, corners_before, row_of, start_of, sum_to, IsCounted, IsPlaced, AreRows, rows_between}
use Rattle.cell_box.proofs.RowLaws.{row_push, row_push_other, row_part, row_cells, length-row, length-corners_before, start_after, start_most, corner_within}

-- one more corner
pub counted_more : (done : List Corner) (starts : List ℕ) (v i n : ℕ) → IsCounted done starts → v + 1 < length starts → n ≡ get_or starts (v + 1) 0 + 1 → IsCounted (done ++ (v, i) ∷ []) (set starts (v + 1) n)
counted_more done starts v i n h lt is = record {
  first = (let d : 0 ≢ v + 1 = omega arith in get_or-set_other starts (v + 1) 0 n 0 d) ∙ h.first;
  each = λ w l. by w (cases_eq v w) (subst (λ k. w + 1 < k) (length-set starts (v + 1) n) l);
}
  where
    by : (w : ℕ) → (v ≡ w) ⊎ (v ≢ w) → w + 1 < length starts → get_or (set starts (v + 1) n) (w + 1) 0 ≡ length (row_of w (done ++ (v, i) ∷ []))
    by w (inl e) l =
        let a = ap length (row_push v i done) in
        let b = length-append (row_of v done) (i ∷ []) in
        let s = h.each v lt in
        subst (λ k. get_or (set starts (v + 1) n) (k + 1) 0 ≡ length (row_of k (done ++ (v, i) ∷ []))) e (get_or-set_same starts (v + 1) n 0 lt ∙ omega arith)
    by w (inr d) l =
        let ne : w + 1 ≢ v + 1 = (λ q. d (omega arith)) in
        get_or-set_other starts (v + 1) (w + 1) n 0 ne ∙ h.each w l ∙ ap length (sym (row_push_other v w i done d))

-- the sums are where the rows begin
pub sum_starts : (all : List Corner) (starts : List ℕ) (v : ℕ) → IsCounted all starts → v < length starts → sum_to starts v ≡ start_of all v
sum_starts all starts zero h lt = refl
sum_starts all starts (suc v) h lt =
    let r = sum_starts all starts v h (omega arith) in
    let e = h.each v (omega arith) in
    omega arith

pub placed_none : (all : List Corner) (starts numbers : List ℕ) → get_or starts 0 0 ≡ 0 → ((v : ℕ) → v + 1 < length starts → get_or starts (v + 1) 0 ≡ start_of all v) → IsPlaced all [] starts numbers
placed_none all starts numbers z h = record {
  first = z;
  ends = λ v lt. let e = h v lt in omega arith;
  items = λ v k lt l. absurd (omega arith);
}

-- where the next cell of v goes is within its row
pub room_for : (all done rest : List Corner) (starts numbers : List ℕ) (v i : ℕ) → IsPlaced all done starts numbers → all ≡ (done ++ (v, i) ∷ []) ++ rest → v + 1 < length starts
    → get_or starts (v + 1) 0 < start_of all v + length (row_of v all)
room_for all done rest starts numbers v i h is lt =
    let e = h.ends v lt in
    let a = ap length (row_push v i done) in
    let b = length-append (row_of v done) (i ∷ []) in
    let p = row_part v i v all done rest is in
    omega arith

-- one more cell in its row
pub placed_more : (all done rest : List Corner) (starts numbers : List ℕ) (v i : ℕ) → IsPlaced all done starts numbers → all ≡ (done ++ (v, i) ∷ []) ++ rest → v + 1 < length starts
    → get_or starts (v + 1) 0 < length numbers
    → IsPlaced all (done ++ (v, i) ∷ []) (set starts (v + 1) (get_or starts (v + 1) 0 + 1)) (set numbers (get_or starts (v + 1) 0) i)
placed_more all done rest starts numbers v i h is lt room = record {
  first = (let d : 0 ≢ v + 1 = omega arith in get_or-set_other starts (v + 1) 0 (at + 1) 0 d) ∙ h.first;
  ends = λ w l. ends w (cases_eq v w) (subst (λ k. w + 1 < k) (length-set starts (v + 1) (at + 1)) l);
  items = λ w k l m. items w k (cases_eq v w) (subst (λ n. w + 1 < n) (length-set starts (v + 1) (at + 1)) l) m;
}
  where
    at : ℕ
    at = get_or starts (v + 1) 0

    ends : (w : ℕ) → (v ≡ w) ⊎ (v ≢ w) → w + 1 < length starts → get_or (set starts (v + 1) (at + 1)) (w + 1) 0 ≡ start_of all w + length (row_of w (done ++ (v, i) ∷ []))
    ends w (inl e) l =
        let a = ap length (row_push v i done) in
        let b = length-append (row_of v done) (i ∷ []) in
        let s = h.ends v lt in
        subst (λ k. get_or (set starts (v + 1) (at + 1)) (k + 1) 0 ≡ start_of all k + length (row_of k (done ++ (v, i) ∷ []))) e (get_or-set_same starts (v + 1) (at + 1) 0 lt ∙ omega arith)
    ends w (inr d) l =
        let ne : w + 1 ≢ v + 1 = (λ q. d (omega arith)) in
        get_or-set_other starts (v + 1) (w + 1) (at + 1) 0 ne ∙ h.ends w l ∙ ap (λ r. start_of all w + length r) (sym (row_push_other v w i done d))

    -- the cells of another row are elsewhere
    apart : (w k : ℕ) → v ≢ w → k < length (row_of w done) → start_of all w + k ≢ at
    apart w k d l q =
        let e = h.ends v lt in
        let r = room_for all done rest starts numbers v i h is lt in
        let p = row_part v i w all done rest is in
        let s = ap length (row_push_other v w i done d) in
        elim (cases_lt v w) [
          | inl before ↦ (let a = start_after all v w before in absurd (omega arith))
          | inr after ↦ (let a = start_after all w v (below w d after) in absurd (omega arith))
        ]
      where
        below : (w : ℕ) → v ≢ w → w ≤ v → w < v
        below w d le = elim (cases_lt w v) [ inl l ↦ l | inr g ↦ absurd (d (omega arith)) ]

    items : (w k : ℕ) → (v ≡ w) ⊎ (v ≢ w) → w + 1 < length starts → k < length (row_of w (done ++ (v, i) ∷ [])) → get_or (set numbers at i) (start_of all w + k) 0 ≡ get_or (row_of w (done ++ (v, i) ∷ [])) k 0
    items w k (inr d) l m =
        let f = row_push_other v w i done d in
        let m' : k < length (row_of w done) = subst (λ r. k < length r) f m in
        let ne = apart w k d m' in
        get_or-set_other numbers at (start_of all w + k) i 0 ne ∙ h.items w k l m' ∙ ap (λ r. get_or r k 0) (sym f)
    items w k (inl e) l m = subst (λ u. get_or (set numbers at i) (start_of all u + k) 0 ≡ get_or (row_of u (done ++ (v, i) ∷ [])) k 0) e (here (cases_lt k (length (row_of v done))) (subst (λ u. k < length (row_of u (done ++ (v, i) ∷ []))) (sym e) m))
      where
        here : (k < length (row_of v done)) ⊎ (length (row_of v done) ≤ k) → k < length (row_of v (done ++ (v, i) ∷ [])) → get_or (set numbers at i) (start_of all v + k) 0 ≡ get_or (row_of v (done ++ (v, i) ∷ [])) k 0
        here (inl s) m =
            let ends = h.ends v lt in
            let ne : start_of all v + k ≢ at = (λ q. absurd (omega arith)) in
            get_or-set_other numbers at (start_of all v + k) i 0 ne ∙ h.items v k lt s ∙ sym (get_or_append_left (row_of v done) (i ∷ []) 0 k s) ∙ ap (λ r. get_or r k 0) (sym (row_push v i done))
        here (inr g) m =
            let ends = h.ends v lt in
            let a = ap length (row_push v i done) in
            let b = length-append (row_of v done) (i ∷ []) in
            let q : length (row_of v done) ≡ k = omega arith in
            let p : start_of all v + k ≡ at = omega arith in
            ap (λ n. get_or (set numbers at i) n 0) p ∙ get_or-set_same numbers at i 0 room ∙ sym (get_or_push (row_of v done) i 0 k q) ∙ ap (λ r. get_or r k 0) (sym (row_push v i done))

-- the corners of all cells begin with those of the first ones
pub corners_after : (cells : List (Option Corners)) (i n : ℕ) → i ≤ n → (rest : List Corner) × (corners_before cells n ≡ corners_before cells i ++ rest)
corners_after cells i zero le = let e : zero ≡ i = omega arith in ([], ap (corners_before cells) e ∙ sym (append-nil (corners_before cells i)))
corners_after cells i (suc n) le = by (cases_lt n i) (corners_after cells i n)
  where
    by : (n < i) ⊎ (i ≤ n) → (i ≤ n → (rest : List Corner) × (corners_before cells n ≡ corners_before cells i ++ rest)) → (rest : List Corner) × (corners_before cells (suc n) ≡ corners_before cells i ++ rest)
    by (inl l) rest = let e : suc n ≡ i = omega arith in ([], ap (corners_before cells) e ∙ sym (append-nil (corners_before cells i)))
    by (inr g) rest =
        let r = rest g in
        (r.0 ++ corners_at (get_or cells n None) n, ap (λ l. l ++ corners_at (get_or cells n None) n) r.1 ∙ append_assoc (corners_before cells i) r.0 (corners_at (get_or cells n None) n))

-- where all is placed each row begins where the one before ends
pub start_at : (all : List Corner) (starts numbers : List ℕ) (v : ℕ) → IsPlaced all all starts numbers → v < length starts → get_or starts v 0 ≡ start_of all v
start_at all starts numbers zero h lt = h.first
start_at all starts numbers (suc v) h lt = subst (λ k. get_or starts k 0 ≡ start_of all (suc v)) plus (h.ends v (omega arith))
  where
    plus : v + 1 ≡ suc v
    plus = omega arith

pub rows_placed : (all : List Corner) (starts numbers : List ℕ) → 0 < length starts → length starts ≤ 1000001 → length numbers ≡ start_of all (length starts - 1) → IsPlaced all all starts numbers → AreRows starts numbers
rows_placed all starts numbers some few len h = record {
  some = some;
  few = few;
  ordered = λ v lt. let a = start_at all starts numbers v h (omega arith) in let b = h.ends v lt in omega arith;
  ends = λ v lt. let b = h.ends v lt in let s = ends v lt in omega arith;
}
  where
    ends : (v : ℕ) → v + 1 < length starts → start_of all v + length (row_of v all) ≤ start_of all (length starts - 1)
    ends v lt = start_after all v (length starts - 1) (omega arith)

map-range_agree : {X : Type 0} (f g : ℕ → X) (a n : ℕ) → ((k : ℕ) → k < a + n → f k ≡ g k) → map f (range_with_len a n) ≡ map g (range_with_len a n)
map-range_agree f g a zero h = refl
map-range_agree f g a (suc n) h =
    ap (λ x. x ∷ map f (range_with_len (a + 1) n)) (h a (omega arith))
    ∙ ap (λ l. g a ∷ l) (map-range_agree f g (a + 1) n (λ k lt. h k (omega arith)))

-- the part of the list is the row
part_row : (all : List Corner) (starts numbers : List ℕ) (v : ℕ) → length numbers ≡ start_of all (length starts - 1) → IsPlaced all all starts numbers → v + 1 < length starts
    → take (get_or starts (v + 1) 0 - get_or starts v 0) (drop (get_or starts v 0) numbers) ≡ row_of v all
part_row all starts numbers v len h lt =
    let a = start_at all starts numbers v h (omega arith) in
    let b = h.ends v lt in
    let s = start_after all v (length starts - 1) (omega arith) in
    let n : get_or starts (v + 1) 0 - get_or starts v 0 ≡ length (row_of v all) = omega arith in
    let d : length (drop (start_of all v) numbers) ≡ length numbers - start_of all v = length-drop (start_of all v) numbers in
    let t : length (take (length (row_of v all)) (drop (start_of all v) numbers)) ≡ length (row_of v all) = length-take-le (length (row_of v all)) (drop (start_of all v) numbers) (omega arith) in
    ap (λ k. take k (drop (get_or starts v 0) numbers)) n ∙ ap (λ k. take (length (row_of v all)) (drop k numbers)) a
    ∙ same_lists _ (row_of v all) t (λ k e l. (
    let l' : k < length (row_of v all) = omega arith in
    get_or-take (length (row_of v all)) (drop (start_of all v) numbers) k e l' ∙ get_or-drop (start_of all v) numbers k e
    ∙ get_or_default numbers (start_of all v + k) e 0 (omega arith) ∙ h.items v k lt l' ∙ get_or_default (row_of v all) k 0 e l'
    ))

pub rows_are : (points : ℕ) (cells : List (Option Corners)) (starts numbers : List ℕ) → AreAllDifferent cells → length starts ≡ points + 1
    → length numbers ≡ start_of (corners_before cells (length cells)) (length starts - 1)
    → IsPlaced (corners_before cells (length cells)) (corners_before cells (length cells)) starts numbers → rows_between starts numbers ≡ rows_of points cells
rows_are points cells starts numbers d len room h =
    let e : length starts - 1 ≡ points = omega arith in
    ap (λ n. map (λ v. take (get_or starts (v + 1) 0 - get_or starts v 0) (drop (get_or starts v 0) numbers)) (range_with_len 0 n)) e
    ∙ map-range_agree _ (cells_with cells) 0 points
    (λ v lt. part_row (corners_before cells (length cells)) starts numbers v room h (omega arith) ∙ row_cells cells v (length cells) d (omega arith))

-- cell number i, as it was read
read : (cells : List (Option Corners)) (i : ℕ) → i < length cells → cell_at cells i ≡ get_or cells i None
read cells i lt = ap (option_and_then (λ cell. cell)) (slice_get-get_or cells i None lt)

read_cell : (cells : List (Option Corners)) (i : ℕ) (c : Corners) → i < length cells → Some c ≡ cell_at cells i → get_or cells i None ≡ Some c
read_cell cells i c lt is = sym (is ∙ read cells i lt)

-- an absent cell has no corners
pub corners_absent : (cells : List (Option Corners)) (i : ℕ) (o : Option Corners) → i < length cells → o ≡ cell_at cells i → o ≡ None → corners_before cells i ≡ corners_before cells (i + 1)
corners_absent cells i o lt is none =
    let plus : i + 1 ≡ suc i = omega arith in
    let here : get_or cells i None ≡ None = sym (read cells i lt) ∙ sym is ∙ none in
    sym (ap (corners_before cells) plus ∙ ap (λ o. corners_before cells i ++ corners_at o i) here ∙ append-nil (corners_before cells i))

-- its corners, as an array has them, are points
pub array_within : (n : ℕ) (cells : List (Option Corners)) (i k : ℕ) (c : Corners) (vs : List ℕ) → AreWithin (n - 1) cells → i < length cells → Some c ≡ cell_at cells i
    → vs ≡ c.0 ∷ c.1 ∷ c.2 ∷ c.3 ∷ [] → k < 4 → get_or vs k 0 + 1 < n
array_within n cells i k c vs within lt is array few =
    let h = corner_within (n - 1) cells i k c within lt (read_cell cells i c lt is) few in
    let q = ap (λ l. get_or l k 0) array in
    omega arith

pub corners_more : (xs : List Corner) (vs : List ℕ) (i k : ℕ) → k < length vs → xs ++ map (λ v. (v, i)) (take (k + 1) vs) ≡ (xs ++ map (λ v. (v, i)) (take k vs)) ++ (get_or vs k 0, i) ∷ []
corners_more xs vs i k lt =
    let f : ℕ → Corner = λ v. (v, i) in
    ap (λ l. xs ++ l) (map_more f vs k 0 lt) ∙ sym (append_assoc xs (map f (take k vs)) ((get_or vs k 0, i) ∷ []))

-- of all corners those of cell number i up to its corner k, and the rest
pub corners_split : (cells : List (Option Corners)) (i k : ℕ) (c : Corners) (vs : List ℕ) → i < length cells → Some c ≡ cell_at cells i → vs ≡ c.0 ∷ c.1 ∷ c.2 ∷ c.3 ∷ [] → k < 4
    → (rest : List Corner) × (corners_before cells (length cells) ≡ ((corners_before cells i ++ map (λ v. (v, i)) (take k vs)) ++ (get_or vs k 0, i) ∷ []) ++ rest)
corners_split cells i k c vs lt is array few =
    let f : ℕ → Corner = λ v. (v, i) in
    let after = corners_after cells (suc i) (length cells) (omega arith) in
    let len : length vs ≡ 4 = ap length array in
    let here : corners_at (get_or cells i None) i ≡ map f vs = ap (λ o. corners_at o i) (read_cell cells i c lt is) ∙ ap (map f) (sym array) in
    let parts : map f vs ≡ map f (take (k + 1) vs) ++ map f (drop (k + 1) vs) = ap (map f) (sym (take-append-drop (k + 1) vs)) ∙ map-append f (take (k + 1) vs) (drop (k + 1) vs) in (
      map f (drop (k + 1) vs) ++ after.0,
      after.1 ∙ ap (λ l. (corners_before cells i ++ l) ++ after.0) (here ∙ parts)
          ∙ ap (λ l. l ++ after.0) (sym (append_assoc (corners_before cells i) (map f (take (k + 1) vs)) (map f (drop (k + 1) vs))))
          ∙ append_assoc (corners_before cells i ++ map f (take (k + 1) vs)) (map f (drop (k + 1) vs)) after.0
          ∙ ap (λ l. l ++ (map f (drop (k + 1) vs) ++ after.0)) (corners_more (corners_before cells i) vs i k (omega arith)),
    )

-- a slice that was lent, and is back
pub back : (n : ℕ) (new old : List ℕ) → n ≡ length old → length new ≡ length old → take n (new ++ drop (length new) old) ≡ new
back n new old e len =
    ap (λ l. take n (new ++ l)) (drop_all (length new) old (omega arith)) ∙ ap (take n) (append-nil new) ∙ take_all n new (omega arith)

-- few corners were counted
pub counted_few : (cells : List (Option Corners)) (i k v : ℕ) (vs : List ℕ) → k ≤ 4 → length (row_of v (corners_before cells i ++ map (λ v. (v, i)) (take k vs))) ≤ 4 * i + 4
counted_few cells i k v vs few =
    let f : ℕ → Corner = λ v. (v, i) in
    let a = length-row v (corners_before cells i ++ map f (take k vs)) in
    let b = length-append (corners_before cells i) (map f (take k vs)) in
    let c : length (map f (take k vs)) ≡ length (take k vs) = length-map (take k vs) f in
    let d : length (take k vs) ≤ k = omega (arith, length-take k vs) in
    let e = length-corners_before cells i in
    omega arith

-- sums of few counts
pub sums_few : (cells : List (Option Corners)) (starts : List ℕ) (v : ℕ) → length cells ≤ 4000000 → IsCounted (corners_before cells (length cells)) starts → v < length starts → length starts ≤ 1000001 → sum_to starts v < 2 ^ 63
sums_few cells starts v few h lt points =
    let a = sum_starts (corners_before cells (length cells)) starts v h lt in
    let b = length-corners_before cells (length cells) in
    let c = start_most (corners_before cells (length cells)) v (omega arith) in
    omega arith
