-- One list for finished cells and for those whose types are still to come.
use Rattle.std.proofs.Common.{◌≡◌, ℕ, suc, ◌-◌, Bool, true, false, not, cond, eqb, List, [], ◌∷◌, ◌++◌, length, take, drop, Option, Some, None, refl, sym, ap, ◌∙◌, arith, length-append}
use Rattle.std.specs.Prelude.{◌&&◌}
use Rattle.std.proofs.lemmas.Bool.{eqb-true}
use Rattle.std.proofs.lemmas.List.{length-drop, drop-append-le, take-append-le}
use Rattle.mesh_base.specs.Mesh.{Corners, corners_of}
use Rattle.vtk_legacy.specs.declared.gathered.CellRow.{CellRow}
use Rattle.vtk_legacy.specs.MeshText.{has_twins}
use Rattle.vtk_legacy.specs.Kept.{Waiting, ended, tetrahedron}
use Rattle.vtk_legacy.specs.Table.{Rows, IsTable, weave, absent, with_waiting}

pub weave-length : (entries : List (Option Corners)) (sizes : List ℕ) → length (weave entries sizes) ≡ length entries
weave-length [] sizes = refl
weave-length (Some c ∷ entries) sizes = ap suc (weave-length entries sizes)
weave-length (None ∷ entries) sizes = ap suc (weave-length entries (drop 1 sizes))

-- one more tetrahedron
pub weave-some : (entries : List (Option Corners)) (sizes : List ℕ) (c : Corners) → weave (entries ++ Some c ∷ []) sizes ≡ weave entries sizes ++ record { size = 4; cell = Some c } ∷ []
weave-some [] sizes c = refl
weave-some (Some d ∷ entries) sizes c = ap (λ (rows : List Waiting). let row : Waiting = record { size = 4; cell = Some d } in row ∷ rows) (weave-some entries sizes c)
weave-some (None ∷ entries) [] c = ap (λ (rows : List Waiting). let row : Waiting = record { size = 0; cell = None } in row ∷ rows) (weave-some entries [] c)
weave-some (None ∷ entries) (n ∷ sizes) c = ap (λ (rows : List Waiting). let row : Waiting = record { size = n; cell = None } in row ∷ rows) (weave-some entries sizes c)

-- one more cell that is none
pub weave-none : (entries : List (Option Corners)) (sizes : List ℕ) (n : ℕ) → absent entries ≡ length sizes → weave (entries ++ None ∷ []) (sizes ++ n ∷ []) ≡ weave entries sizes ++ record { size = n; cell = None } ∷ []
weave-none [] [] n e = refl
weave-none [] (m ∷ sizes) n e = absurd (omega arith)
weave-none (Some d ∷ entries) sizes n e = ap (λ (rows : List Waiting). let row : Waiting = record { size = 4; cell = Some d } in row ∷ rows) (weave-none entries sizes n e)
weave-none (None ∷ entries) [] n e = absurd (omega arith)
weave-none (None ∷ entries) (m ∷ sizes) n e = ap (λ (rows : List Waiting). let row : Waiting = record { size = m; cell = None } in row ∷ rows) (weave-none entries sizes n (omega (arith, e)))

pub absent-some : (entries : List (Option Corners)) (c : Corners) → absent (entries ++ Some c ∷ []) ≡ absent entries
absent-some [] c = refl
absent-some (Some d ∷ entries) c = absent-some entries c
absent-some (None ∷ entries) c = ap suc (absent-some entries c)

pub absent-none : (entries : List (Option Corners)) → absent (entries ++ None ∷ []) ≡ suc (absent entries)
absent-none [] = refl
absent-none (Some d ∷ entries) = absent-none entries
absent-none (None ∷ entries) = ap suc (absent-none entries)

-- ---- one more cell whose type is still to come

abbrev table_view : List (Option Corners) → ℕ → ℕ → List ℕ → ℕ → Rows
table_view entries kept used sizes passed = record { waiting = weave (drop used entries) (drop passed sizes); done = take kept entries }

pub table-some : (entries : List (Option Corners)) (kept used : ℕ) (sizes : List ℕ) (passed : ℕ) (c : Corners) → IsTable entries kept used sizes passed → IsTable (entries ++ Some c ∷ []) kept used sizes passed
table-some entries kept used sizes passed c h = record {
  few_kept = h.few_kept;
  few_used = omega (arith, h.few_used, length-append entries (Some c ∷ []));
  few_passed = h.few_passed;
  sized = rw (drop-append-le used entries (Some c ∷ []) h.few_used, absent-some (drop used entries) c) h.sized;
}

pub table-none : (entries : List (Option Corners)) (kept used : ℕ) (sizes : List ℕ) (passed n : ℕ) → IsTable entries kept used sizes passed → IsTable (entries ++ None ∷ []) kept used (sizes ++ n ∷ []) passed
table-none entries kept used sizes passed n h = record {
  few_kept = h.few_kept;
  few_used = omega (arith, h.few_used, length-append {A = Option Corners} entries (None ∷ []));
  few_passed = omega (arith, h.few_passed, length-append sizes (n ∷ []));
  sized = rw (drop-append-le {A = Option Corners} used entries (None ∷ []) h.few_used, absent-none (drop used entries)) (omega (arith, h.sized, h.few_passed, length-append sizes (n ∷ [])));
}

pub view-some : (entries : List (Option Corners)) (kept used : ℕ) (sizes : List ℕ) (passed : ℕ) (c : Corners) (rows : Rows) → IsTable entries kept used sizes passed → table_view entries kept used sizes passed ≡ rows
    → table_view (entries ++ Some c ∷ []) kept used sizes passed ≡ with_waiting (record { size = 4; cell = Some c }) rows
view-some entries kept used sizes passed c rows h is =
    rw (drop-append-le used entries (Some c ∷ []) h.few_used, weave-some (drop used entries) (drop passed sizes) c, take-append-le kept entries (Some c ∷ []) (omega (arith, h.few_kept, h.few_used)), ← is) refl

pub view-none : (entries : List (Option Corners)) (kept used : ℕ) (sizes : List ℕ) (passed n : ℕ) (rows : Rows) → IsTable entries kept used sizes passed → table_view entries kept used sizes passed ≡ rows
    → table_view (entries ++ None ∷ []) kept used (sizes ++ n ∷ []) passed ≡ with_waiting (record { size = n; cell = None }) rows
view-none entries kept used sizes passed n rows h is =
    let sized : absent (drop used entries) ≡ length (drop passed sizes) = h.sized ∙ sym (length-drop passed sizes) in
    rw (
      drop-append-le {A = Option Corners} used entries (None ∷ []) h.few_used,
      drop-append-le passed sizes (n ∷ []) h.few_passed,
      weave-none (drop used entries) (drop passed sizes) n sized,
      take-append-le {A = Option Corners} kept entries (None ∷ []) (omega (arith, h.few_kept, h.few_used)),
      ← is,
    ) refl

-- a tetrahedron has four points
four_points : (four : Bool) (twins : Bool) (n : ℕ) (c d : Corners) → eqb n 4 ≡ four → cond {A = Option Corners} (four && not twins) (Some c) None ≡ Some d → n ≡ 4
four_points true twins n c d e h = eqb-true n 4 e
four_points false twins n c d e h = absurd cc

pub ended-some : (row : CellRow) (c : Corners) → tetrahedron row.count (corners_of row.corners) ≡ Some c → ended row ≡ record { size = 4; cell = Some c }
ended-some row c h =
    let four = four_points (eqb row.count 4) (has_twins (corners_of row.corners)) row.count (corners_of row.corners) c refl h in
    rw (h, four) refl
