use Rattle.std.proofs.Common.{◌≡◌, ℕ, ◌+◌, ◌<◌, Bool, true, false, cond, ◌&&◌, pos, List, [], ◌∷◌, ◌++◌, length, get_or, filter, Vec, Global, sym, ap, ◌∙◌, arith}
use Rattle.std.proofs.lemmas.List.{append-nil, get_or_default}
use Rattle.std.specs.List.{range_with_len}
use Rattle.mesh_base.specs.Place.{Area, Place, is_inside}
use Rattle.mesh_base.specs.Mesh.{MeshView, is_vertex, place}
use Rattle.mesh_base.specs.Scan.{is_in}
use Rattle.mesh_base.proofs.CellLists.{filter-range_more}
use Rattle.mesh_base.proofs.scan.scan_mesh.Goals as goal
use Rattle.mesh_base.proofs.scan.scan_mesh.Goals.{then-index+then-has+in_ok-push, else-index, else-index-via-then-index+else-has, else-index-via-else-index}

module _ (mesh : MeshView) (area : Area) (v : ℕ) (old new : List ℕ) (before : old ≡ filter (is_in mesh area) (range_with_len 0 v)) where
  more : (b : Bool) → is_in mesh area v ≡ b → new ≡ old ++ cond b (v ∷ []) [] → new ≡ filter (is_in mesh area) (range_with_len 0 (v + 1))
  more b e f = f ∙ ap (λ xs. xs ++ cond b (v ∷ []) []) before ∙ ap (λ b. filter (is_in mesh area) (range_with_len 0 v) ++ cond b (v ∷ []) []) (sym e) ∙ sym (filter-range_more (is_in mesh area) v)

  taken : is_vertex mesh.cells v ≡ true → is_inside area (place mesh v) ≡ true → new ≡ old ++ v ∷ [] → new ≡ filter (is_in mesh area) (range_with_len 0 (v + 1))
  taken a b f = more true (ap (λ t. t && is_inside area (place mesh v)) a ∙ b) f

  outside : is_vertex mesh.cells v ≡ true → is_inside area (place mesh v) ≡ false → new ≡ old → new ≡ filter (is_in mesh area) (range_with_len 0 (v + 1))
  outside a b f = more false (ap (λ t. t && is_inside area (place mesh v)) a ∙ b) (f ∙ sym (append-nil old))

  no_vertex : is_vertex mesh.cells v ≡ false → new ≡ old → new ≡ filter (is_in mesh area) (range_with_len 0 (v + 1))
  no_vertex a f = more false (ap (λ t. t && is_inside area (place mesh v)) a) (f ∙ sym (append-nil old))

-- the point at v is the place of v
at_place : (mesh : MeshView) (points : List Place) (v : ℕ) (p : Place) → points ≡ mesh.points → p ≡ get_or points v p → v < length points → place mesh v ≡ p
at_place mesh points v p e at lt = ap (λ ps. get_or ps v (pos 0, pos 0, pos 0)) (sym e) ∙ get_or_default points v (pos 0, pos 0, pos 0) p lt ∙ sym at

pub loop-v-preserved : goal.loop-v-preserved
loop-v-preserved c =
    let mesh = c.args.mesh.now in
    let area = c.args.area.now in
    let v = c.loop-v.v in
    let old = c.loop-v.found.items in
    let new = c.if-index.found.items in
    let marks = c.in_ok-marks.marks.items in
    let vertex : is_vertex mesh.cells v ≡ c.index.result.now =
    ap (λ cells. is_vertex cells v) (sym c.cells.ensures.cells) ∙ sym (c.in_ok-marks.ensures.marks v c.loop-v-test.true)
    ∙ get_or_default marks v false c.index.result.now (omega (arith, c.in_ok-marks.ensures.len)) ∙ sym c.index.ensures in
    let inside = λ (p : Place) (at : p ≡ get_or c.points-points.result.now v p). ap (is_inside area) (at_place mesh c.points-points.result.now v p c.points-points.ensures.points at c.loop-v-test.true) in
    elim c.if-index.branch [
      | then-index+then-has+in_ok-push w ↦ taken mesh area v old new c.loop-v.invariant (vertex ∙ w.if-index.true)
          (inside w.index-points-v.result w.index-points-v.is ∙ sym w.has.ensures ∙ w.if-has.true)
          (ap (λ (l : Vec ℕ Global). l.items) w.found-is ∙ w.in_ok-push.ensures.items)
      | else-index w ↦ elim w.else-index.branch [
        | else-index-via-then-index+else-has w' ↦ outside mesh area v old new c.loop-v.invariant (vertex ∙ w'.if-index.true)
            (inside w'.index-points-v.result w'.index-points-v.is ∙ sym w'.has.ensures ∙ w'.if-has.false)
            (ap (λ (l : Vec ℕ Global). l.items) w.found-is)
        | else-index-via-else-index w' ↦ no_vertex mesh area v old new c.loop-v.invariant (vertex ∙ w'.if-index.false) (ap (λ (l : Vec ℕ Global). l.items) w.found-is)
      ]
    ]
