-- the faces of a cell that is split round a new point
use Rattle.std.proofs.Common.{◌≡◌, ◌≢◌, ℕ, ◌+◌, ◌≤◌, Bool, true, false, cond, inl, inr, List, get_or, count_by, refl, sym, ap, subst, ◌∙◌, arith, IfSome, All}
use Rattle.std.proofs.lemmas.Bool.{cases_lt, false≢true}
use Rattle.std.proofs.lemmas.Bool.Decides.{nat_tests}
use Rattle.std.proofs.lemmas.List.Elements.{All-from_recursion}
use Rattle.mesh_base.specs.Mesh.{Face, Corners, IsWithin, is_on, has_corner, face_of, faces, face_eq, face_count}
use Rattle.mesh_base.specs.Edit.{quarters}
use Rattle.face_table.specs.Tally.{Counts, tally_in, AreFacesBelow}
use Rattle.face_table.proofs.BuildLemmas.{face_within}
use Rattle.face_table.proofs.CornerLemmas.{swapped, ended}
use Rattle.mesh_base.proofs.Corners.{IsArray, in_array}
use Rattle.face_table.proofs.Sums.{face_same, off_face, no_corner}
use Rattle.face_table.proofs.Within.{first_on, second_on, cell_within}

abbrev pub two : Bool → ℕ
two b = cond b 2 0

-- once or twice where x, y and p are the face
abbrev once : ℕ → ℕ → ℕ → Face → ℕ
once x y p f = cond (face_eq (face_of x y p) f) 1 0

abbrev pub twice : ℕ → ℕ → ℕ → Face → ℕ
twice x y p f = two (face_eq (face_of x y p) f)

both : (x y p : ℕ) (f : Face) → twice x y p f ≡ once x y p f + once x y p f
both x y p f = by (face_eq (face_of x y p) f)
  where
    by : (b : Bool) → cond b 2 0 ≡ cond b 1 0 + cond b 1 0
    by true = refl
    by false = refl

last : (x y p : ℕ) (f : Face) → once x p y f ≡ once x y p f
last x y p f = ap (λ g. cond (face_eq g f) 1 0) (ended x y p)

first : (x y p : ℕ) (f : Face) → once p x y f ≡ once x y p f
first x y p f = ap (λ g. cond (face_eq g f) 1 0) (swapped x p y ∙ ended x y p)

-- the faces of the four cells are those of the old one, each once, and those of the point and two corners, each twice
split_faces : (k : Corners) (p : ℕ) (f : Face) → face_count (quarters p k) f
    ≡ count_by (λ g. face_eq g f) (faces k) + (twice k.0 k.1 p f + twice k.0 k.2 p f + twice k.0 k.3 p f + twice k.1 k.2 p f + twice k.1 k.3 p f + twice k.2 k.3 p f)
split_faces k p f =
    let old : count_by (λ g. face_eq g f) (faces k) ≡ 0 + once k.1 k.2 k.3 f + once k.0 k.2 k.3 f + once k.0 k.1 k.3 f + once k.0 k.1 k.2 f = refl in
    let new : face_count (quarters p k) f
    ≡ 0 + once k.1 k.2 k.3 f + once p k.2 k.3 f + once p k.1 k.3 f + once p k.1 k.2 f
    + once p k.2 k.3 f + once k.0 k.2 k.3 f + once k.0 p k.3 f + once k.0 p k.2 f
    + once k.1 p k.3 f + once k.0 p k.3 f + once k.0 k.1 k.3 f + once k.0 k.1 p f
    + once k.1 k.2 p f + once k.0 k.2 p f + once k.0 k.1 p f + once k.0 k.1 k.2 f = refl in
    omega (
      arith,
      old,
      new,
      both k.0 k.1 p f,
      both k.0 k.2 p f,
      both k.0 k.3 p f,
      both k.1 k.2 p f,
      both k.1 k.3 p f,
      both k.2 k.3 p f,
      last k.0 k.2 p f,
      last k.0 k.3 p f,
      last k.1 k.3 p f,
      first k.1 k.2 p f,
      first k.1 k.3 p f,
      first k.2 k.3 p f,
    )

-- two faces of which one has a number that the other has not
unlike : (g h : Face) (v : ℕ) → is_on g v ≡ true → is_on h v ≡ false → two (face_eq g h) ≡ 0
unlike g h v on away = by (face_eq g h) refl
  where
    by : (b : Bool) → face_eq g h ≡ b → two b ≡ 0
    by true e = absurd (false≢true (sym away ∙ ap (λ k. is_on k v) (sym (face_same g h e)) ∙ on))
    by false e = refl

pub unlike_first : (g h : Face) (x y z w p : ℕ) → g ≡ face_of x y p → h ≡ face_of z w p → z ≢ x → w ≢ x → p ≢ x → two (face_eq g h) ≡ 0
unlike_first g h x y z w p e f a b c = unlike g h x (subst (λ k. is_on k x ≡ true) (sym e) (first_on x y p)) (subst (λ k. is_on k x ≡ false) (sym f) (off_face z w p x a b c))

pub unlike_second : (g h : Face) (x y z w p : ℕ) → g ≡ face_of x y p → h ≡ face_of z w p → z ≢ y → w ≢ y → p ≢ y → two (face_eq g h) ≡ 0
unlike_second g h x y z w p e f a b c = unlike g h y (subst (λ k. is_on k y ≡ true) (sym e) (second_on x y p)) (subst (λ k. is_on k y ≡ false) (sym f) (off_face z w p y a b c))

-- the corners as an array has them
pub array-beside : (xs : List ℕ) (k : Corners) (p : ℕ) → IsArray xs k → has_corner k p ≡ false → (get_or xs 0 0 ≢ p) × (get_or xs 1 0 ≢ p) × (get_or xs 2 0 ≢ p) × (get_or xs 3 0 ≢ p)
array-beside xs k p e h = in_array (λ a b f g. (a ≢ p) × (b ≢ p) × (f ≢ p) × (g ≢ p)) xs k e (no_corner k p h)

pub array-faces : (xs : List ℕ) (k : Corners) (p : ℕ) (f : Face) → IsArray xs k → face_count (quarters p k) f ≡ count_by (λ g. face_eq g f) (faces k)
    + (twice (get_or xs 0 0) (get_or xs 1 0) p f + twice (get_or xs 0 0) (get_or xs 2 0) p f + twice (get_or xs 0 0) (get_or xs 3 0) p f
    + twice (get_or xs 1 0) (get_or xs 2 0) p f + twice (get_or xs 1 0) (get_or xs 3 0) p f + twice (get_or xs 2 0) (get_or xs 3 0) p f)
array-faces xs k p f e =
    in_array (λ a b c d. face_count (quarters p k) f ≡ count_by (λ g. face_eq g f) (faces k) + (twice a b p f + twice a c p f + twice a d p f + twice b c p f + twice b d p f + twice c d p f)) xs k e
    (split_faces k p f)

-- the next point is on no counted face, and is no corner of a cell whose faces are counted
pub off_counted : (p n : ℕ) (counts : Counts) (f : Face) → p ≡ n → AreFacesBelow n counts → is_on f p ≡ true → tally_in counts f ≡ 0
off_counted p n counts f e b on = elim (cases_lt 0 (tally_in counts f)) [ inl l ↦ (let q = b f p l on in absurd (omega arith)) | inr g ↦ omega arith ]

past_corners : (n : ℕ) (k : Corners) → IsWithin n k → has_corner k n ≡ false
past_corners n k w = grind (arith, nat_tests)

module _ (p n : ℕ) (old : Counts) (k : Corners) (e : p ≡ n) (b : AreFacesBelow n old) (there : (f : Face) → count_by (λ g. face_eq g f) (faces k) ≤ tally_in old f) where
  within : IsWithin p k
  within = let w = cell_within n old k b there in (omega arith, omega arith, omega arith, omega arith)

  pub no_corner_at : has_corner k p ≡ false
  no_corner_at = past_corners p k within

  four : All (λ cell. IfSome cell (IsWithin (n + 1))) (quarters p k)
  four =
      let w = within in
      All-from_recursion (λ cell. IfSome cell (IsWithin (n + 1))) (quarters p k) (
        (omega arith, omega arith, omega arith, omega arith),
        ((omega arith, omega arith, omega arith, omega arith), ((omega arith, omega arith, omega arith, omega arith), ((omega arith, omega arith, omega arith, omega arith), tt))),
      )

  -- the numbers of counted faces after the split
  pub below_split : (new : Counts) → ((f : Face) → tally_in new f + count_by (λ g. face_eq g f) (faces k) ≡ tally_in old f + face_count (quarters p k) f) → AreFacesBelow (n + 1) new
  below_split new t f v lt on = elim (cases_lt 0 (tally_in old f)) [
    | inl l ↦ (let q = b f v l on in omega arith)
    | inr g ↦ (let q = t f in face_within (n + 1) (quarters p k) f v four (omega arith) on)
  ]
