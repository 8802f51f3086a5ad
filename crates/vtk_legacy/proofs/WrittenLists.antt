-- Lines that are put word by word, and lists of cells of which some are absent.
use Rattle.std.proofs.Common.{◌≡◌, ℕ, zero, suc, ◌+◌, ◌<◌, ◌≤◌, List, [], ◌∷◌, ◌++◌, length, get_or, take, map, flat_map, filter, Option, Some, None, Result, OnOk, refl, sym, ap, subst, ◌∙◌, append_assoc, length-append, arith, add-one}
use Rattle.std.specs.List.{repeat}
use Rattle.std.specs.Prelude.{count_by, codes, decimal}
use Rattle.std.specs.Option.{is_some}
use Rattle.std.proofs.lemmas.List.{append-nil, map-append, take_all, take_more, flat_map_more, take-take, take_at, length-take}
use Rattle.std.proofs.lemmas.List.Sums.{length-filter}
use Rattle.std.proofs.lemmas.List.Folds.{flat_map-map}
use Rattle.std.proofs.lemmas.Grind.{flat_map-append}
use Rattle.mesh_base.specs.Mesh.{MeshView, Corners, live}
use Rattle.mesh_base.specs.Place.{Place}
use Rattle.vtk_legacy.specs.Written.{line, first_lines, point_line, point_lines, cell_line, cell_lines, type_lines, mesh_spelling, points_spelling, count_spelling, cells_spelling, types_spelling}

-- ---- what was there before is kept

pub kept-on : (old mid new : List ℕ) (n m : ℕ) → n ≡ length old → m ≡ length mid → take n mid ≡ old → take m new ≡ mid → take n new ≡ old
kept-on old mid new n m a b k l =
    let le : n ≤ m = omega (arith, ap length k, length-take n mid) in
    sym (take-take n m new le) ∙ ap (take n) l ∙ k

pub kept-appended : (old new rest : List ℕ) (n : ℕ) → n ≡ length old → new ≡ old ++ rest → take n new ≡ old
kept-appended old new rest n a e = ap (take n) e ∙ take_at old rest n (sym a)

pub kept-appended_twice : (old new head rest : List ℕ) (n : ℕ) → n ≡ length old → new ≡ (old ++ head) ++ rest → take n new ≡ old
kept-appended_twice old new head rest n a e = kept-appended old new (head ++ rest) n a (e ∙ append_assoc old head rest)

-- ---- lines, word by word

pub same_on_ok : {X Y : Type 0} (r : Result X Y) (new a b : List ℕ) → a ≡ b → OnOk r (new ≡ a) → OnOk r (new ≡ b)
same_on_ok r new a b e h = subst (λ (l : List ℕ). OnOk r (new ≡ l)) e h

pub three_words : (old one two x y z u v w : List ℕ) → x ≡ u → y ≡ v → z ≡ w → one ≡ old ++ (x ++ 32 ∷ []) → two ≡ one ++ (y ++ 32 ∷ []) → two ++ (z ++ 10 ∷ []) ≡ old ++ line (u ∷ v ∷ w ∷ [])
three_words old one two x y z u v w d e f a b = rw (b, a, d, e, f) (simp append_assoc)

pub four_words : (out old one two three w x y z p q r s : List ℕ) → w ≡ p → x ≡ q → y ≡ r → z ≡ s → old ≡ out ++ (52 ∷ 32 ∷ []) → one ≡ old ++ (w ++ 32 ∷ []) → two ≡ one ++ (x ++ 32 ∷ []) → three ≡ two ++ (y ++ 32 ∷ [])
    → three ++ (z ++ 10 ∷ []) ≡ out ++ line (codes "4" ∷ p ∷ q ∷ r ∷ s ∷ [])
four_words out old one two three w x y z p q r s e f g h a b c d = rw (d, c, b, a, e, f, g, h) (simp append_assoc)

-- ---- live cells

-- the line of a cell, where it is live
abbrev pub maybe_line : Option Corners → List ℕ
maybe_line cell = flat_map line (map cell_line (live (cell ∷ [])))

pub live-lines : (cells : List (Option Corners)) → flat_map line (map cell_line (live cells)) ≡ flat_map maybe_line cells
live-lines [] = refl
live-lines (None ∷ cells) = live-lines cells
live-lines (Some c ∷ cells) =
    ap (λ (l : List ℕ). line (cell_line c) ++ l) (live-lines cells) ∙ ap (λ (l : List ℕ). l ++ flat_map maybe_line cells) (sym (append-nil (line (cell_line c))))

length-live : (cells : List (Option Corners)) → length (filter (λ c. is_some c) cells) ≡ length (live cells)
length-live [] = refl
length-live (None ∷ cells) = length-live cells
length-live (Some c ∷ cells) = ap (λ (n : ℕ). suc n) (length-live cells)

pub count_by-live : (cells : List (Option Corners)) → count_by (λ c. is_some c) cells ≡ length (live cells)
count_by-live cells = sym (length-filter (λ c. is_some c) cells) ∙ length-live cells

-- ---- so many lines that are the same

repeat_more : (n : ℕ) (xs : List ℕ) → repeat (suc n) xs ≡ repeat n xs ++ xs
repeat_more zero xs = append-nil xs
repeat_more (suc n) xs = ap (λ (l : List ℕ). xs ++ l) (repeat_more n xs) ∙ sym (append_assoc xs (repeat n xs) xs)

pub one_more : (old new front word : List ℕ) (n : ℕ) → old ≡ front ++ repeat n word → new ≡ old ++ word → new ≡ front ++ repeat (n + 1) word
one_more old new front word n a b = rw (b, a, add-one, repeat_more n word) (append_assoc front (repeat n word) word)

same-lines : (cells : List Corners) (word : List ℕ) → flat_map line (map (λ _. word ∷ []) cells) ≡ repeat (length cells) (word ++ 10 ∷ [])
same-lines [] word = refl
same-lines (c ∷ cells) word = ap (λ (l : List ℕ). (word ++ 10 ∷ []) ++ l) (same-lines cells word)

-- ---- one line for each, and all of them

regroup : (old one two three a b c d : List ℕ) → one ≡ old ++ a → two ≡ one ++ b → three ≡ two ++ c → three ++ d ≡ old ++ (a ++ (b ++ (c ++ d)))
regroup old one two three a b c d e f g = rw (g, f, e) (simp append_assoc)

-- the text so far, with that of one more
pub next_piece : {X : Type 0} (f : X → List ℕ) (xs : List X) (i : ℕ) (x : X) (front old new : List ℕ) → i < length xs → x ≡ get_or xs i x → old ≡ front ++ flat_map f (take i xs) → new ≡ old ++ f x → new ≡ front ++ flat_map f (take (i + 1) xs)
next_piece f xs i x front old new lt is a b =
    b ∙ ap (λ (l : List ℕ). l ++ f x) a ∙ flat_map_more f front (take i xs) x
    ∙ ap (λ (l : List _). front ++ flat_map f l) (ap (λ y. take i xs ++ y ∷ []) is ∙ sym (take_more xs i x lt))

pub all_points : (new old head : List ℕ) (points : List Place) (i : ℕ) → length points ≤ i → new ≡ (old ++ head) ++ flat_map (λ (p : Place). line (point_line p)) (take i points) → new ≡ old ++ (head ++ flat_map line (map point_line points))
all_points new old head points i le h =
    h ∙ ap (λ (l : List Place). (old ++ head) ++ flat_map (λ (p : Place). line (point_line p)) l) (take_all i points le)
    ∙ ap (λ (l : List ℕ). (old ++ head) ++ l) (sym (flat_map-map line point_line points)) ∙ append_assoc old head (flat_map line (map point_line points))

pub all_cells : (new old : List ℕ) (cells : List (Option Corners)) (i : ℕ) → length cells ≤ i → new ≡ old ++ flat_map maybe_line (take i cells) → new ≡ old ++ cells_spelling cells
all_cells new old cells i le h =
    h ∙ ap (λ (l : List (Option Corners)). old ++ flat_map maybe_line l) (take_all i cells le)
    ∙ ap (λ (l : List ℕ). old ++ l) (sym (live-lines cells))

-- the first lines and the points
pub all_front : (old one new : List ℕ) (points : List Place) → one ≡ old ++ flat_map line first_lines → new ≡ one ++ flat_map line (point_lines points) → new ≡ old ++ points_spelling points
all_front old one new points a b =
    b ∙ ap (λ (l : List ℕ). l ++ flat_map line (point_lines points)) a ∙ append_assoc old (flat_map line first_lines) (flat_map line (point_lines points))
    ∙ ap (λ (l : List ℕ). old ++ l) (sym (flat_map-append line first_lines (point_lines points)))

-- the text is that of its parts
pub parts_text : (mesh : MeshView) → mesh_spelling mesh ≡ points_spelling mesh.points ++ (count_spelling (length (live mesh.cells)) ++ (cells_spelling mesh.cells ++ types_spelling (length (live mesh.cells))))
unfolding mesh_spelling
parts_text mesh =
    let cells = live mesh.cells in
    let p = point_lines mesh.points in
    let q = cell_lines cells in
    let r = type_lines cells in
    let head = count_spelling (length cells) in
    let types : flat_map line r ≡ types_spelling (length cells) =
    ap (λ (l : List ℕ). line (codes "CELL_TYPES" ∷ decimal (length cells) ∷ []) ++ l) (same-lines cells (codes "10")) in
    ap (flat_map line) (sym (append_assoc first_lines p (q ++ r)))
    ∙ flat_map-append line (first_lines ++ p) (q ++ r)
    ∙ ap (λ (l : List ℕ). points_spelling mesh.points ++ l)
    (flat_map-append line q r ∙ append_assoc head (cells_spelling mesh.cells) (flat_map line r) ∙ ap (λ (l : List ℕ). head ++ (cells_spelling mesh.cells ++ l)) types)

pub live-append : (a b : List (Option Corners)) → live (a ++ b) ≡ live a ++ live b
live-append [] b = refl
live-append (None ∷ a) b = live-append a b
live-append (Some c ∷ a) b = ap (λ (l : List Corners). c ∷ l) (live-append a b)

pub chunks_text : (a b : List (Option Corners)) → cells_spelling (a ++ b) ≡ cells_spelling a ++ cells_spelling b
chunks_text a b =
    ap (λ (l : List Corners). flat_map line (map cell_line l)) (live-append a b)
    ∙ ap (flat_map line) (map-append cell_line (live a) (live b))
    ∙ flat_map-append line (map cell_line (live a)) (map cell_line (live b))

pub chunks_live : (a b : List (Option Corners)) → length (live (a ++ b)) ≡ length (live a) + length (live b)
chunks_live a b = ap (λ (l : List Corners). length l) (live-append a b) ∙ length-append (live a) (live b)

-- all parts, one after another
pub all_parts : (old one two three new : List ℕ) (mesh : MeshView) (count : ℕ) → count ≡ length (live mesh.cells) → one ≡ old ++ points_spelling mesh.points → two ≡ one ++ count_spelling count → three ≡ two ++ cells_spelling mesh.cells
    → new ≡ three ++ types_spelling count → new ≡ old ++ mesh_spelling mesh
all_parts old one two three new mesh count is a b c d =
    let n = length (live mesh.cells) in
    d ∙ ap (λ (k : ℕ). three ++ types_spelling k) is
    ∙ regroup old one two three (points_spelling mesh.points) (count_spelling n) (cells_spelling mesh.cells) (types_spelling n) a (b ∙ ap (λ (k : ℕ). one ++ count_spelling k) is) c
    ∙ ap (λ (l : List ℕ). old ++ l) (sym (parts_text mesh))

-- ---- meshes without absent cells

pub live-whole : (cells : List Corners) → live (map (λ c. Some c) cells) ≡ cells
live-whole [] = refl
live-whole (c ∷ cells) = ap (λ (l : List Corners). c ∷ l) (live-whole cells)
