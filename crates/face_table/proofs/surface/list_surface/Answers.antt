use Rattle.std.proofs.Common.{◌≡◌, ℕ, ap, sym, ◌∙◌, arith, length, ltb, get_or, filter, cond, [], ◌∷◌, ◌++◌}
use Rattle.std.specs.List.{range_with_len}
use Rattle.mesh_base.proofs.CellLists.{filter-range_more}
use Rattle.face_table.proofs.BuildLemmas.{listed_below, listed_all}
use Rattle.face_table.proofs.surface.list_surface.Goals as goal

pub loop-v-preserved : goal.loop-v-preserved
loop-v-preserved c =
    let p = λ (w : ℕ). ltb 0 (get_or c.args.singles.now.items w 0) in (
      c.push_if.ensures.items ∙ ap (λ l. l ++ cond c.is_single-wanted.result (c.loop-v.v ∷ []) []) c.loop-v.invariant.0
          ∙ ap (λ b. filter p (range_with_len 0 c.loop-v.v) ++ cond b (c.loop-v.v ∷ []) []) c.is_single-wanted.ensures
          ∙ sym (filter-range_more p c.loop-v.v),
      omega arith,
      omega arith,
    )

pub returns-clause-below : goal.returns-clause-below
returns-clause-below c =
    let s = c.args.singles.now.items in
    let e : c.loop-v.v ≡ length s = omega arith in
    let f = c.loop-v.invariant.0 ∙ ap (λ n. filter (λ w. ltb 0 (get_or s w 0)) (range_with_len 0 n)) e in
    let b = listed_below s c.loop-v.surface f c.loop-v.invariant.2 in
    record { ascending = b.ascending; below = λ w m. let q = b.below w m in omega arith; room = let q = b.room in omega arith }

pub returns-clause-all : goal.returns-clause-all
returns-clause-all c =
    let s = c.args.singles.now.items in
    let e : c.loop-v.v ≡ length s = omega arith in
    listed_all s c.loop-v.surface.items (c.loop-v.invariant.0 ∙ ap (λ n. filter (λ w. ltb 0 (get_or s w 0)) (range_with_len 0 n)) e)
