use Rattle.std.proofs.Common.{◌≡◌, List, [], ◌∷◌, ◌++◌, Option, Some, None, set, sym, ap, subst, ◌∙◌, append_assoc}
use Rattle.mesh_base.specs.Mesh.{Corners}
use Rattle.mesh_base.specs.Edit.{cell_at}
use Rattle.mesh_base.proofs.Corners.{in_array}
use Rattle.edge_table.specs.Pairs.{IsPairsOf}
use Rattle.edge_table.proofs.tests.split.Goals as goal

-- four cells more, one after the other
four_more : (xs l0 l1 l2 l3 : List (Option Corners)) (a b c d : Option Corners) → l0 ≡ xs ++ a ∷ [] → l1 ≡ l0 ++ b ∷ [] → l2 ≡ l1 ++ c ∷ [] → l3 ≡ l2 ++ d ∷ [] → xs ++ a ∷ b ∷ c ∷ d ∷ [] ≡ l3
four_more xs l0 l1 l2 l3 a b c d e0 e1 e2 e3 =
    sym (e3 ∙ ap (λ l. l ++ d ∷ []) (e2 ∙ ap (λ l. l ++ c ∷ []) (e1 ∙ ap (λ l. l ++ b ∷ []) e0))
    ∙ append_assoc ((xs ++ a ∷ []) ++ b ∷ []) (c ∷ []) (d ∷ []) ∙ append_assoc (xs ++ a ∷ []) (b ∷ []) (c ∷ d ∷ []) ∙ append_assoc xs (a ∷ []) (b ∷ c ∷ d ∷ []))

pub returns-in_ok-list-in-Some-4-clause-pairs : goal.returns-in_ok-list-in-Some-4-clause-pairs
returns-in_ok-list-in-Some-4-clause-pairs c =
    let old = c.args.cells.now.items in
    let i = c.args.i in
    let p = c.args.point in
    let at : cell_at old i ≡ Some c.in-Some.cell = ap (λ l. cell_at l i) (sym c.deref.ensures.value) ∙ sym c.in-Some.ensures in
    let pairs = c.in_ok-split_cell-in-Some.ensures.cells old i c.requires.pairs at in
    let four = in_array (λ x y z w. IsPairsOf (set old i None ++ Some (p, y, z, w) ∷ Some (x, p, z, w) ∷ Some (x, y, p, w) ∷ Some (x, y, z, p) ∷ []) c.split_cell.new.self) c.corners.result c.in-Some.cell c.corners.ensures.corners pairs in
    subst (λ l. IsPairsOf l c.split_cell.new.self) (four_more _ _ _ _ _ _ _ _ _ c.in_ok-list-in-Some.ensures c.in_ok-list-in-Some-2.ensures c.in_ok-list-in-Some-3.ensures c.in_ok-list-in-Some-4.ensures) four
