-- the numbers of counted faces are below the number of points
use Rattle.std.proofs.Common.{◌≡◌, ℕ, ◌+◌, ◌<◌, ◌≤◌, Bool, true, cond, List, [], ◌∷◌, inl, inr, count_by, Option, Some, ap, IfSome, arith}
use Rattle.std.proofs.lemmas.Bool.{cases_lt}
use Rattle.std.proofs.lemmas.Bool.Decides.{nat_tests}
use Rattle.std.proofs.lemmas.List.Elements.{All-from_recursion}
use Rattle.std.proofs.lemmas.List.Sums.{sum_by-cons}
use Rattle.mesh_base.specs.Mesh.{Face, Corners, IsWithin, AreWithin, is_on, face_of, faces, face_eq, face_count}
use Rattle.mesh_base.proofs.FaceLaws.{face_count-push}
use Rattle.face_table.specs.Tally.{Counts, tally_in, AreFacesBelow}
use Rattle.face_table.proofs.BuildLemmas.{face_within}
use Rattle.face_table.proofs.Sums.{face_eq-refl}

pub below_all : (n : ℕ) (cells : List (Option Corners)) (counts : Counts) → AreWithin n cells → ((f : Face) → tally_in counts f ≡ face_count cells f) → AreFacesBelow n counts
below_all n cells counts a t f v lt on = let e = t f in face_within n cells f v a (omega arith) on

-- the faces of a cell
cell_faces : (n : ℕ) (c : Corners) (f : Face) (v : ℕ) → IsWithin n c → 0 < count_by (λ g. face_eq g f) (faces c) → is_on f v ≡ true → v < n
cell_faces n c f v w lt on =
    face_within n (Some c ∷ []) f v (All-from_recursion (λ cell. IfSome cell (IsWithin n)) (Some c ∷ []) (w, tt)) (omega (arith, face_count-push [] c f)) on

pub below_more : (n : ℕ) (old new : Counts) (c : Corners) → IsWithin n c → AreFacesBelow n old
    → ((f : Face) → tally_in new f ≡ tally_in old f + count_by (λ g. face_eq g f) (faces c)) → AreFacesBelow n new
below_more n old new c w b t f v lt on = elim (cases_lt 0 (tally_in old f)) [
  | inl l ↦ b f v l on
  | inr g ↦ (let e = t f in cell_faces n c f v w (omega arith) on)
]

-- a cell whose faces are counted
abbrev one : Bool → ℕ
one b = cond b 1 0

own : (f : Face) (fs : List Face) → 0 < count_by (λ g. face_eq g f) (f ∷ fs)
own f fs = let z = ap one (face_eq-refl f) in omega (arith, z, sum_by-cons (λ g. cond (face_eq g f) 1 0) f fs)

later : (f g : Face) (fs : List Face) → 0 < count_by (λ g. face_eq g f) fs → 0 < count_by (λ g. face_eq g f) (g ∷ fs)
later f g fs lt = omega (arith, sum_by-cons (λ g. cond (face_eq g f) 1 0) g fs)

pub first_on : (p q r : ℕ) → is_on (face_of p q r) p ≡ true
first_on p q r = grind (arith, nat_tests)

pub second_on : (p q r : ℕ) → is_on (face_of p q r) q ≡ true
second_on p q r = grind (arith, nat_tests)

pub third_on : (p q r : ℕ) → is_on (face_of p q r) r ≡ true
third_on p q r = grind (arith, nat_tests)

pub cell_within : (n : ℕ) (counts : Counts) (c : Corners) → AreFacesBelow n counts → ((f : Face) → count_by (λ g. face_eq g f) (faces c) ≤ tally_in counts f) → IsWithin n c
cell_within n counts c b t =
    let f = face_of c.1 c.2 c.3 in
    let g = face_of c.0 c.2 c.3 in
    let rest = face_of c.0 c.1 c.3 ∷ face_of c.0 c.1 c.2 ∷ [] in
    let p : 0 < tally_in counts f = (let o = own f (g ∷ rest) in let m = t f in omega arith) in
    let q : 0 < tally_in counts g = (let o = later g f (g ∷ rest) (own g rest) in let m = t g in omega arith) in
    (b g c.0 q (first_on c.0 c.2 c.3), b f c.1 p (first_on c.1 c.2 c.3), b f c.2 p (second_on c.1 c.2 c.3), b f c.3 p (third_on c.1 c.2 c.3))
