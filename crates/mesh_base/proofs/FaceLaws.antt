-- a cell has a face where the face is one of its four
use Rattle.std.proofs.Common.{inl, inr, ◌≡◌, ◌≢◌, ℕ, zero, suc, ◌+◌, ◌<◌, ◌≤◌, min, max, length, get_or, Contains, Bool, true, false, cond, eqb, ◌&&◌, ◌||◌, List, [], ◌∷◌, ◌++◌, set, append_assoc, count_by, flat_map, Option, Some, None, refl, sym, ap, subst, ◌∙◌, arith}
use Rattle.std.proofs.lemmas.Bool.{false≢true, cases_lt}
use Rattle.mesh_base.specs.Mesh.{is_vertex}
use Rattle.mesh_base.proofs.AnswerLaws.{any_from, both_true, faces_corner, any-flat_map}
use Rattle.std.proofs.lemmas.Bool.Decides.{nat_tests}
use Rattle.mesh_base.specs.Mesh.{Corners, Face, AreDifferent, has_corner, is_on, face_of, faces, has_face, live, count, face_eq, face_count, IsFace, AreAllDifferent, is_surface}
use Rattle.std.specs.List.{list_any, AllByRecursion}
use Rattle.std.specs.Option.{IfSome}
use Rattle.std.proofs.lemmas.List.Sums.{sum_by-append, sum_by-cons}
use Rattle.std.proofs.lemmas.List.Elements.{recursion_from_All}
use Rattle.std.proofs.lemmas.List.{append-nil}
use Rattle.mesh_base.specs.Edit.{cell_at}
use Rattle.mesh_base.proofs.CellLists.{live-append}

-- three different numbers make the face exactly where all three are on it
same_face : (p q r : ℕ) (f : Face) → p ≢ q → p ≢ r → q ≢ r → f.0 < f.1 → f.1 < f.2 → face_eq (face_of p q r) f ≡ ((is_on f p && is_on f q) && is_on f r)
same_face p q r f pq pr qr l m = grind (arith, nat_tests)

abbrev n : Bool → ℕ
n b = cond b 1 0

on_sum : (f : Face) (p : ℕ) → f.0 < f.1 → f.1 < f.2 → n (is_on f p) ≡ n (eqb p f.0) + n (eqb p f.1) + n (eqb p f.2)
on_sum f p l m = grind (arith, nat_tests)

corner_sum : (c : Corners) (v : ℕ) → AreDifferent c → n (has_corner c v) ≡ n (eqb c.0 v) + n (eqb c.1 v) + n (eqb c.2 v) + n (eqb c.3 v)
corner_sum c v d = grind (arith, nat_tests)

-- as many corners are on the face as numbers of the face are corners
both_sums : (c : Corners) (f : Face) → AreDifferent c → f.0 < f.1 → f.1 < f.2
    → n (is_on f c.0) + n (is_on f c.1) + n (is_on f c.2) + n (is_on f c.3) ≡ n (has_corner c f.0) + n (has_corner c f.1) + n (has_corner c f.2)
both_sums c f d l m =
    omega (arith, on_sum f c.0 l m, on_sum f c.1 l m, on_sum f c.2 l m, on_sum f c.3 l m, corner_sum c f.0 d, corner_sum c f.1 d, corner_sum c f.2 d)

-- of four tests and three with the same number of trues: one triple of the four is all true where the three are
triples : (a b c d x y z : Bool) → n a + n b + n c + n d ≡ n x + n y + n z
    → n ((b && c) && d) + n ((a && c) && d) + n ((a && b) && d) + n ((a && b) && c) ≡ n ((x && y) && z)
triples a b c d x y z e = grind arith

-- so a face is one of the four exactly where the cell has all three of its numbers, and it is so once
pub one_face : (c : Corners) (f : Face) → AreDifferent c → IsFace f → count_by (λ g. face_eq g f) (faces c) ≡ n (has_face c f)
one_face c f d l =
    let e0 = ap n (same_face c.1 c.2 c.3 f d.3 d.4 d.5 l.0 l.1) in
    let e1 = ap n (same_face c.0 c.2 c.3 f d.1 d.2 d.5 l.0 l.1) in
    let e2 = ap n (same_face c.0 c.1 c.3 f d.0 d.2 d.4 l.0 l.1) in
    let e3 = ap n (same_face c.0 c.1 c.2 f d.0 d.1 d.3 l.0 l.1) in
    let t = triples (is_on f c.0) (is_on f c.1) (is_on f c.2) (is_on f c.3) (has_corner c f.0) (has_corner c f.1) (has_corner c f.2) (both_sums c f d l.0 l.1) in
    omega (arith, e0, e1, e2, e3, t)

count_from : (cells : List (Option Corners)) (f : Face) → AllByRecursion (λ cell. IfSome cell AreDifferent) cells → IsFace f → face_count cells f ≡ count cells f
count_from [] f d l = refl
count_from (None ∷ cells) f d l = count_from cells f d.1 l
count_from (Some c ∷ cells) f d l =
    let h = count_from cells f d.1 l in
    let o = one_face c f d.0 l in
    omega (arith, h, o, sum_by-append (λ g. n (face_eq g f)) (faces c) (flat_map faces (live cells)), sum_by-cons (λ k. n (has_face k f)) c (live cells))

pub count_is : (cells : List (Option Corners)) (f : Face) → AreAllDifferent cells → IsFace f → face_count cells f ≡ count cells f
count_is cells f d l = count_from cells f (recursion_from_All (λ cell. IfSome cell AreDifferent) cells d) l

sorted : (p q r : ℕ) → p ≢ q → p ≢ r → q ≢ r → IsFace (face_of p q r)
sorted p q r x y z = (grind arith, grind arith)

all-append : (P : Face → Type 0) (xs ys : List Face) → AllByRecursion P xs → AllByRecursion P ys → AllByRecursion P (xs ++ ys)
all-append P [] ys a b = b
all-append P (x ∷ xs) ys a b = (a.0, all-append P xs ys a.1 b)

all_faces : (cells : List (Option Corners)) → AllByRecursion (λ cell. IfSome cell AreDifferent) cells → AllByRecursion IsFace (flat_map faces (live cells))
all_faces [] d = tt
all_faces (None ∷ cells) d = all_faces cells d.1
all_faces (Some c ∷ cells) d =
    let e = d.0 in
    all-append IsFace (faces c) (flat_map faces (live cells))
    (sorted c.1 c.2 c.3 e.3 e.4 e.5, (sorted c.0 c.2 c.3 e.1 e.2 e.5, (sorted c.0 c.1 c.3 e.0 e.2 e.4, (sorted c.0 c.1 c.2 e.0 e.1 e.3, tt)))) (all_faces cells d.1)

face_same : (a b : Face) → face_eq a b ≡ true → a ≡ b
face_same a b h = let p : a.0 ≡ b.0 = grind (arith, nat_tests) in let q : a.1 ≡ b.1 = grind (arith, nat_tests) in let r : a.2 ≡ b.2 = grind (arith, nat_tests) in λ i. (p i, q i, r i)

-- a face of the list that passes a test
picked : (p : Face → Bool) (Q : Face → Type 0) (xs : List Face) → AllByRecursion Q xs → list_any p xs ≡ true → (f : Face) × (p f ≡ true) × Q f
picked p Q [] a h = absurd (false≢true h)
picked p Q (x ∷ xs) a h = by (p x) refl (picked p Q xs a.1)
  where
    by : (b : Bool) → p x ≡ b → (list_any p xs ≡ true → (f : Face) × (p f ≡ true) × Q f) → (f : Face) × (p f ≡ true) × Q f
    by true e rest = (x, e, a.0)
    by false e rest = rest (sym (ap (λ b. b || list_any p xs) e) ∙ h)

-- a face that is counted is in the list
hit : (p : Face → Bool) (xs : List Face) (f : Face) → 0 < count_by (λ g. face_eq g f) xs → p f ≡ true → list_any p xs ≡ true
hit p [] f lt h = absurd (omega arith)
hit p (x ∷ xs) f lt h = by (face_eq x f) refl (λ l. hit p xs f l h)
  where
    right : (b c : Bool) → c ≡ true → (b || c) ≡ true
    right true c e = refl
    right false c e = e

    by : (b : Bool) → face_eq x f ≡ b → (0 < count_by (λ g. face_eq g f) xs → list_any p xs ≡ true) → (p x || list_any p xs) ≡ true
    by true e rest = ap (λ b. b || list_any p xs) (subst (λ g. p g ≡ true) (sym (face_same x f e)) h)
    by false e rest = let z = ap n e in right (p x) (list_any p xs) (rest (omega (arith, sum_by-cons (λ g. n (face_eq g f)) x xs)))

kept : (Q : Face → Type 0) (xs : List Face) (f : Face) → 0 < count_by (λ g. face_eq g f) xs → AllByRecursion Q xs → Q f
kept Q [] f lt a = absurd (omega arith)
kept Q (x ∷ xs) f lt a = by (face_eq x f) refl (λ l. kept Q xs f l a.1)
  where
    by : (b : Bool) → face_eq x f ≡ b → (0 < count_by (λ g. face_eq g f) xs → Q f) → Q f
    by true e rest = subst Q (face_same x f e) a.0
    by false e rest = let z = ap n e in rest (omega (arith, sum_by-cons (λ g. n (face_eq g f)) x xs))

-- the surface by counts of faces
pub is_surface-from : (cells : List (Option Corners)) (v : ℕ) → AreAllDifferent cells → (f : Face) → is_on f v ≡ true → face_count cells f ≡ 1 → is_surface cells v ≡ true
is_surface-from cells v d f on one =
    let r = recursion_from_All (λ cell. IfSome cell AreDifferent) cells d in
    let l = kept IsFace (flat_map faces (live cells)) f (omega arith) (all_faces cells r) in
    let c = count_from cells f r l in
    hit (λ g. is_on g v && eqb (count cells g) 1) (flat_map faces (live cells)) f (omega arith) (both (is_on f v) (eqb (count cells f) 1) on (grind (arith, nat_tests)))
  where
    both : (a b : Bool) → a ≡ true → b ≡ true → (a && b) ≡ true
    both true b x y = y
    both false b x y = x

pub from_is_surface : (cells : List (Option Corners)) (v : ℕ) → AreAllDifferent cells → is_surface cells v ≡ true → (f : Face) × (is_on f v ≡ true) × (face_count cells f ≡ 1)
from_is_surface cells v d h =
    let r = recursion_from_All (λ cell. IfSome cell AreDifferent) cells d in
    let p = picked (λ g. is_on g v && eqb (count cells g) 1) IsFace (flat_map faces (live cells)) (all_faces cells r) h in
    let one : count cells p.0 ≡ 1 = grind (arith, nat_tests, right (is_on p.0 v) (eqb (count cells p.0) 1) p.1) in
    (p.0, left (is_on p.0 v) (eqb (count cells p.0) 1) p.1, count_from cells p.0 r p.2 ∙ one)
  where
    left : (a b : Bool) → (a && b) ≡ true → a ≡ true
    left true b x = refl
    left false b x = x

    right : (a b : Bool) → (a && b) ≡ true → b ≡ true
    right true b x = x
    right false b x = absurd (false≢true x)

flat_map-append : {X Y : Type 0} (f : X → List Y) (xs ys : List X) → flat_map f (xs ++ ys) ≡ flat_map f xs ++ flat_map f ys
flat_map-append f [] ys = refl
flat_map-append f (x ∷ xs) ys = ap (λ l. f x ++ l) (flat_map-append f xs ys) ∙ sym (append_assoc (f x) (flat_map f xs) (flat_map f ys))

-- one more cell, and one less
pub face_count-push : (cells : List (Option Corners)) (c : Corners) (f : Face) → face_count (cells ++ Some c ∷ []) f ≡ face_count cells f + count_by (λ g. face_eq g f) (faces c)
face_count-push cells c f =
    ap (λ l. count_by (λ g. face_eq g f) (flat_map faces l)) (live-append cells (Some c ∷ []))
    ∙ ap (count_by (λ g. face_eq g f)) (flat_map-append faces (live cells) (c ∷ []))
    ∙ sum_by-append (λ g. n (face_eq g f)) (flat_map faces (live cells)) (faces c ++ [])
    ∙ ap (λ l. face_count cells f + count_by (λ g. face_eq g f) l) (append-nil (faces c))

pub face_count-set : (cells : List (Option Corners)) (i : ℕ) (c : Corners) (f : Face) → cell_at cells i ≡ Some c → face_count (set cells i None) f + count_by (λ g. face_eq g f) (faces c) ≡ face_count cells f
face_count-set [] i c f h = absurd (cc)
face_count-set (None ∷ cells) zero c f h = absurd (cc)
face_count-set (Some d ∷ cells) zero c f h =
    let e : d ≡ c = cc in
    let s = sum_by-append (λ g. n (face_eq g f)) (faces d) (flat_map faces (live cells)) in
    let t = ap (λ k. count_by (λ g. face_eq g f) (faces k)) e in
    omega (arith, s, t)
face_count-set (None ∷ cells) (suc i) c f h = face_count-set cells i c f h
face_count-set (Some d ∷ cells) (suc i) c f h =
    let r = face_count-set cells i c f h in
    omega (arith, r, sum_by-append (λ g. n (face_eq g f)) (faces d) (flat_map faces (live (set cells i None))), sum_by-append (λ g. n (face_eq g f)) (faces d) (flat_map faces (live cells)))

pub face_count-append : (xs ys : List (Option Corners)) (f : Face) → face_count (xs ++ ys) f ≡ face_count xs f + face_count ys f
face_count-append xs ys f =
    ap (λ l. count_by (λ g. face_eq g f) (flat_map faces l)) (live-append xs ys)
    ∙ ap (count_by (λ g. face_eq g f)) (flat_map-append faces (live xs) (live ys))
    ∙ sum_by-append (λ g. n (face_eq g f)) (flat_map faces (live xs)) (flat_map faces (live ys))

-- a vertex on a counted face is a corner of a live cell
pub face_vertex : (cells : List (Option Corners)) (f : Face) (v : ℕ) → is_on f v ≡ true → 0 < face_count cells f → is_vertex cells v ≡ true
face_vertex cells f v on lt =
    any_from (λ c. list_any (λ g. is_on g v && true) (faces c)) (λ c. has_corner c v) (live cells) (λ c. faces_corner c v (λ g. true))
    (sym (any-flat_map (λ g. is_on g v && true) faces (live cells)) ∙ hit (λ g. is_on g v && true) (flat_map faces (live cells)) f lt (ap (λ b. b && true) on))

-- a face on a number that no live cell has isn't counted
pub face_count-free : (cells : List (Option Corners)) (f : Face) (v : ℕ) → is_vertex cells v ≡ false → is_on f v ≡ true → face_count cells f ≡ 0
face_count-free cells f v none on = elim (cases_lt 0 (face_count cells f)) [ inl l ↦ absurd (false≢true (sym none ∙ face_vertex cells f v on l)) | inr g ↦ omega arith ]

-- what holds of two numbers holds of the least and the greatest of them
min_holds : (P : ℕ → Type 0) (a b : ℕ) → P a → P b → P (min a b)
min_holds P a b p q = elim (cases_lt a b) [ inl l ↦ subst P (omega arith) p | inr g ↦ subst P (omega arith) q ]

max_holds : (P : ℕ → Type 0) (a b : ℕ) → P a → P b → P (max a b)
max_holds P a b p q = elim (cases_lt a b) [ inl l ↦ subst P (omega arith) q | inr g ↦ subst P (omega arith) p ]

-- a cell has the face of three of its corners
has_face_of : (c : Corners) (x y z : ℕ) → has_corner c x ≡ true → has_corner c y ≡ true → has_corner c z ≡ true → has_face c (face_of x y z) ≡ true
has_face_of c x y z p q r =
    let P = λ (v : ℕ). has_corner c v ≡ true in
    let low = min_holds P x (min y z) p (min_holds P y z q r) in
    let middle = max_holds P (min x y) (min (max x y) z) (min_holds P x y p q) (min_holds P (max x y) z (max_holds P x y p q) r) in
    let high = max_holds P x (max y z) p (max_holds P y z q r) in
    both_true _ _ (both_true _ _ low middle) high

own_0 : (c : Corners) → has_corner c c.0 ≡ true
own_0 c = grind (arith, nat_tests)

own_1 : (c : Corners) → has_corner c c.1 ≡ true
own_1 c = grind (arith, nat_tests)

own_2 : (c : Corners) → has_corner c c.2 ≡ true
own_2 c = grind (arith, nat_tests)

own_3 : (c : Corners) → has_corner c c.3 ≡ true
own_3 c = grind (arith, nat_tests)

-- a cell has its own faces
has_own : (c : Corners) (f : Face) → Contains (faces c) f → has_face c f ≡ true
has_own c f (k, lt, e) = by k lt e
  where
    at : (g : Face) → g ≡ f → has_face c g ≡ true → has_face c f ≡ true
    at g e h = subst (λ g. has_face c g ≡ true) e h

    by : (k : ℕ) → k < length (faces c) → get_or (faces c) k f ≡ f → has_face c f ≡ true
    by zero lt e = at _ e (has_face_of c c.1 c.2 c.3 (own_1 c) (own_2 c) (own_3 c))
    by (suc zero) lt e = at _ e (has_face_of c c.0 c.2 c.3 (own_0 c) (own_2 c) (own_3 c))
    by (suc (suc zero)) lt e = at _ e (has_face_of c c.0 c.1 c.3 (own_0 c) (own_1 c) (own_3 c))
    by (suc (suc (suc zero))) lt e = at _ e (has_face_of c c.0 c.1 c.2 (own_0 c) (own_1 c) (own_2 c))
    by (suc (suc (suc (suc k)))) lt e = absurd (omega arith)

-- what passes a test is counted
counted : (p : Corners → Bool) (cs : List Corners) (k : ℕ) (c : Corners) → k < length cs → get_or cs k c ≡ c → p c ≡ true → 1 ≤ count_by p cs
counted p [] k c lt e h = absurd (omega arith)
counted p (d ∷ cs) zero c lt e h = let t = ap n (ap p e ∙ h) in omega (arith, sum_by-cons (λ x. n (p x)) d cs)
counted p (d ∷ cs) (suc k) c lt e h = let r = counted p cs k c (omega arith) e h in omega (arith, sum_by-cons (λ x. n (p x)) d cs)

-- a face of a live cell is counted
pub count-own : (cells : List (Option Corners)) (c : Corners) (f : Face) → Contains (live cells) c → Contains (faces c) f → 1 ≤ count cells f
count-own cells c f (k, lt, e) m = counted (λ c. has_face c f) (live cells) k c lt e (has_own c f m)
