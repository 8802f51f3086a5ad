use Rattle.std.proofs.Common.{◌≡◌, ℕ, ◌+◌, ◌-◌, ◌<◌, ◌≤◌, List, [], length, get_or, map, vec_len, sym, ap, ◌∙◌, arith, take, drop, rules}
use Rattle.std.proofs.lemmas.List.{get_or_default}
use Rattle.std.proofs.lemmas.List.FromFn.{get_or-map-range_with_len, length-map-range_with_len}
use Rattle.cell_box.specs.Rows.{rows_between}
use Rattle.cell_box.specs.Cells.{cells_with}
use Rattle.cell_box.proofs.Totals.{row_at}
use Rattle.cell_box.proofs.incidence.Incidence.cells_at.Goals as goal

below : (starts numbers : List ℕ) (rows : List (List ℕ)) (v : ℕ) → rows_between starts numbers ≡ rows → v < length rows → 0 < length starts → v + 1 < length starts
below starts numbers rows v e lt some =
    let l = length-map-range_with_len (λ v. take (get_or starts (v + 1) 0 - get_or starts v 0) (drop (get_or starts v 0) numbers)) 0 (length starts - 1) in
    let f = ap length e in
    omega arith

pub index-start-requires : goal.index-start-requires
index-start-requires c =
    let b = below c.self.inside.starts.items c.self.inside.numbers.items c.args.self.now c.args.v c.self.view_is c.requires c.self.invariant.some in
    omega arith

pub index-end-requires : goal.index-end-requires
index-end-requires c =
    let b = below c.self.inside.starts.items c.self.inside.numbers.items c.args.self.now c.args.v c.self.view_is c.requires c.self.invariant.some in
    omega arith

-- where the row begins and ends
ends : (starts numbers : List ℕ) (v a b : ℕ) → v + 1 < length starts → a ≡ get_or starts v a → b ≡ get_or starts (v + 1) b → (a ≡ get_or starts v 0) × (b ≡ get_or starts (v + 1) 0)
ends starts numbers v a b lt e f = (e ∙ get_or_default starts v a 0 (omega arith), f ∙ get_or_default starts (v + 1) b 0 lt)

pub slice_bounds-result-count : goal.slice_bounds-result-count
slice_bounds-result-count c =
    let b = below c.self.inside.starts.items c.self.inside.numbers.items c.args.self.now c.args.v c.self.view_is c.requires c.self.invariant.some in
    let e = ends c.self.inside.starts.items c.self.inside.numbers.items c.args.v c.index-start.result.now c.index-end.result.now b c.index-start.ensures c.index-end.ensures in
    let o = c.self.invariant.ordered c.args.v b in
    omega arith

pub slice_bounds-result-start : goal.slice_bounds-result-start
slice_bounds-result-start c =
    let b = below c.self.inside.starts.items c.self.inside.numbers.items c.args.self.now c.args.v c.self.view_is c.requires c.self.invariant.some in
    let e = ends c.self.inside.starts.items c.self.inside.numbers.items c.args.v c.index-start.result.now c.index-end.result.now b c.index-start.ensures c.index-end.ensures in
    let o = c.self.invariant.ordered c.args.v b in
    let p = c.self.invariant.ends c.args.v b in
    let l = c.deref.ensures.len in
    first_of (omega arith, search rules)

pub slice_bounds-result-end : goal.slice_bounds-result-end
slice_bounds-result-end c =
    let b = below c.self.inside.starts.items c.self.inside.numbers.items c.args.self.now c.args.v c.self.view_is c.requires c.self.invariant.some in
    let e = ends c.self.inside.starts.items c.self.inside.numbers.items c.args.v c.index-start.result.now c.index-end.result.now b c.index-start.ensures c.index-end.ensures in
    let o = c.self.invariant.ordered c.args.v b in
    let p = c.self.invariant.ends c.args.v b in
    let l = c.deref.ensures.len in
    first_of (omega arith, search rules)

pub offset_bounds-deref-start : goal.offset_bounds-deref-start
offset_bounds-deref-start c =
    let b = below c.self.inside.starts.items c.self.inside.numbers.items c.args.self.now c.args.v c.self.view_is c.requires c.self.invariant.some in
    let e = ends c.self.inside.starts.items c.self.inside.numbers.items c.args.v c.index-start.result.now c.index-end.result.now b c.index-start.ensures c.index-end.ensures in
    let o = c.self.invariant.ordered c.args.v b in
    let p = c.self.invariant.ends c.args.v b in
    let l = c.deref.ensures.len in
    let s = c.deref.type_inv.1 in
    omega arith

pub returns-clause-row : goal.returns-clause-row
returns-clause-row c =
    let starts = c.self.inside.starts.items in
    let numbers = c.self.inside.numbers.items in
    let v = c.args.v in
    let b = below starts numbers c.args.self.now v c.self.view_is c.requires c.self.invariant.some in
    let e = ends starts numbers v c.index-start.result.now c.index-end.result.now b c.index-start.ensures c.index-end.ensures in
    rw (c.deref.ensures.value, e.0, e.1)
    (sym (get_or-map-range_with_len (λ v. take (get_or starts (v + 1) 0 - get_or starts v 0) (drop (get_or starts v 0) numbers)) 0 (length starts - 1) v v [] (omega arith) (omega arith)) ∙ ap (λ rows. get_or rows v []) c.self.view_is)

pub returns-clause-mesh : goal.returns-clause-mesh
returns-clause-mesh c mesh is =
    let n = ap length is in
    let l = length-map-range_with_len (cells_with mesh.cells) 0 (length mesh.points) in
    returns-clause-row c ∙ ap (λ rows. get_or rows c.args.v []) is ∙ row_at mesh c.args.v (omega (arith, c.requires))
