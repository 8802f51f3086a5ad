-- Rows of cells with counts.
use Rattle.std.proofs.Common.{◌≡◌, ℕ, zero, suc, ◌+◌, ◌-◌, ◌≤◌, List, [], ◌∷◌, length, Ok, refl, sym, ap, ◌∙◌, arith}
use Rattle.vtk_legacy.specs.declared.gathered.CellRow.{CellRow}
use Rattle.oct_text.specs.Rest.{Left}
use Rattle.vtk_legacy.specs.MeshText.{Row, ◌>>=◌, token, indexed, indices, with_first}
use Rattle.vtk_legacy.specs.Kept.{kept, ended, empty_row, fill_last, filled, with_corner}
use Rattle.vtk_legacy.proofs.StepLemmas.{bind_ok}

-- so many point numbers are that many
pub indices-length : (n k : ℕ) (l : Left) (x : Row × Left) → indices n k l ≡ Ok x → length x.0 ≡ k
unfolding indices
indices-length n zero l x e = let h : ([], l) ≡ x = cc in ap (λ (y : Row × Left). length y.0) (sym h)
indices-length n (suc k) l x e =
    let p = bind_ok (token l >>= indexed n) _ x e in
    let ps = bind_ok (indices n k p.0.1) (with_first p.0.0) x p.2 in
    let h : (p.0.0 ∷ ps.0.0, ps.0.1) ≡ x = cc (ps.2) in
    ap (λ (y : Row × Left). length y.0) (sym h) ∙ ap suc (indices-length n k p.0.1 ps.0 ps.1)

-- a row gets the last k of its numbers
fill_last-from : (k : ℕ) (ps : List ℕ) (r : CellRow) → length ps ≡ k → k ≤ r.count → fill_last k ps r ≡ record { count = r.count; corners = filled (r.count - k) ps r.corners }
unfolding fill_last
fill_last-from zero [] r e le = refl
fill_last-from zero (p ∷ ps) r e le = absurd (omega arith)
fill_last-from (suc k) [] r e le = absurd (omega arith)
fill_last-from (suc k) (p ∷ ps) r e le =
    let at : r.count - k - 1 ≡ r.count - suc k = omega arith in
    let next : r.count - suc k + 1 ≡ r.count - k = omega arith in
    fill_last-from k ps (with_corner r (r.count - k - 1) p) (omega arith) (omega arith)
    ∙ rw (at, next) refl

pub fill_last-row : (k : ℕ) (ps : List ℕ) → length ps ≡ k → ended (fill_last k ps (empty_row k)) ≡ kept ps
fill_last-row k ps e =
    let from : k - k ≡ 0 = omega arith in
    ap (λ (r : CellRow). ended r) (fill_last-from k ps (empty_row k) e (omega arith)) ∙ rw (from, e) refl
