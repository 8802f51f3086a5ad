-- Rows of corners as cells, and one cell that is listed.
use Rattle.std.proofs.Common.{◌≡◌, ◌≢◌, ◌==◌, ℕ, ℤ, pos, Bool, true, false, not, List, Option, Some, None, [], ◌∷◌, All, IfSome, SomeIff, if◌then◌else◌, ap, refl, arith}
use Rattle.std.proofs.lemmas.Bool.{and_from, and_parts, eqb-true, eqb-false, false_from_ne_true, not_from_false, not-true}
use Rattle.std.proofs.lemmas.List.Elements.{All-nil, All-cons}
use Rattle.mesh_base.specs.Place.{IsCoordinate, IsPlace}
use Rattle.mesh_base.specs.Mesh.{Corners, IsWithin, AreDifferent}
use Rattle.sample_meshes.specs.Listed.{IsListed, are_different, place_of}

apart : (a b : ℕ) → not (a == b) ≡ true → a ≢ b
apart a b e = eqb-false a b (not-true (a == b) e)

not_equal : (a b : ℕ) → a ≢ b → not (a == b) ≡ true
not_equal a b ne = not_from_false (a == b) (false_from_ne_true (a == b) (λ e. ne (eqb-true a b e)))

all_apart : (c : Corners) → are_different c ≡ true → AreDifferent c
all_apart c e =
    let a = and_parts _ _ e in
    let b = and_parts _ _ a.1 in
    let d = and_parts _ _ b.1 in
    let f = and_parts _ _ d.1 in
    let g = and_parts _ _ f.1 in
    (apart _ _ a.0, apart _ _ b.0, apart _ _ d.0, apart _ _ f.0, apart _ _ g.0, apart _ _ g.1)

none_equal : (c : Corners) → AreDifferent c → are_different c ≡ true
none_equal c d =
    and_from _ _ (not_equal _ _ d.0) (and_from _ _ (not_equal _ _ d.1) (and_from _ _ (not_equal _ _ d.2)
    (and_from _ _ (not_equal _ _ d.3) (and_from _ _ (not_equal _ _ d.4) (not_equal _ _ d.5)))))

-- a cell that is there exactly where the four numbers differ
pub row_cell : (c : Corners) (o : Option Corners) → SomeIff o (AreDifferent c) c → o ≡ (if are_different c then Some c else None)
row_cell c None h = rw (false_from_ne_true (are_different c) (λ e. h (all_apart c e))) refl
row_cell c (Some x) h = rw (none_equal c h.0) (ap Some h.1)

none : IsCoordinate (pos 0)
none = (omega arith, omega arith)

four : IsCoordinate (pos 4)
four = (omega arith, omega arith)

different : AreDifferent (0, 1, 2, 3)
different = (omega arith, omega arith, omega arith, omega arith, omega arith, omega arith)

pub one_is_listed : IsListed
    ((pos 0 ∷ pos 0 ∷ pos 0 ∷ []) ∷ (pos 4 ∷ pos 0 ∷ pos 0 ∷ []) ∷ (pos 0 ∷ pos 4 ∷ pos 0 ∷ []) ∷ (pos 0 ∷ pos 0 ∷ pos 4 ∷ []) ∷ [])
    ((0 ∷ 1 ∷ 2 ∷ 3 ∷ []) ∷ [])
one_is_listed =
    let b : List ℤ = pos 4 ∷ pos 0 ∷ pos 0 ∷ [] in
    let c : List ℤ = pos 0 ∷ pos 4 ∷ pos 0 ∷ [] in
    let d : List ℤ = pos 0 ∷ pos 0 ∷ pos 4 ∷ [] in
    let P : List ℤ → Type 0 = λ p. IsPlace (place_of p) in
    let W : Option Corners → Type 0 = λ o. IfSome o (IsWithin 4) in
    let D : Option Corners → Type 0 = λ o. IfSome o AreDifferent in (
      All-cons P _ (b ∷ c ∷ d ∷ []) (none, none, none) (All-cons P b (c ∷ d ∷ []) (four, none, none)
          (All-cons P c (d ∷ []) (none, four, none) (All-cons P d [] (none, none, four) (All-nil P)))),
      record {
        few_points = omega arith;
        few_cells = omega arith;
        within = All-cons W (Some (0, 1, 2, 3)) [] (omega arith, omega arith, omega arith, omega arith) (All-nil W);
        different = All-cons D (Some (0, 1, 2, 3)) [] different (All-nil D);
      },
    )
