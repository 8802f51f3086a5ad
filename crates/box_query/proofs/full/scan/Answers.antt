use Rattle.std.proofs.Common.{◌≡◌, ◌+◌, ◌-◌, [], ◌∷◌, ◌++◌, ℕ, cond, length, filter, ◌∙◌, ap, sym, arith}
use Rattle.std.specs.List.{range_with_len}
use Rattle.mesh_base.specs.Mesh.{is_vertex}
use Rattle.mesh_base.specs.Query.{is_in}
use Rattle.mesh_base.proofs.CellLists.{filter-range_more}
use Rattle.box_query.proofs.Passed.{passed_more, passed-le}
use Rattle.box_query.proofs.full.scan.Goals as goal

pub returns-in_err-put_inside-clause-reads : goal.returns-in_err-put_inside-clause-reads
returns-in_err-put_inside-clause-reads g c =
    let p = is_vertex c.args.step.now.mesh.cells in
    let n = length c.args.step.now.mesh.points in
    let v = c.loop-v.v in
    let d : ℕ = n - (v + 1) in
    let e : d + (v + 1) ≡ n = omega arith in
    let l = ap (λ k. length (filter p (range_with_len 0 k))) e in
    omega (arith, l, passed-le p (v + 1) d, passed_more p v, c.put_inside.ensures.reads, c.loop-v.invariant.reads)

pub loop-v-preserved : goal.loop-v-preserved
loop-v-preserved g c =
    let mesh = c.args.step.now.mesh in
    let q = is_in mesh c.args.area.now in
    let v = c.loop-v.v in
    record {
      found = c.in_ok-put_inside.ensures.items ∙ ap (λ l. l ++ cond (q v) (v ∷ []) []) c.loop-v.invariant.found ∙ sym (filter-range_more q v);
      reads = omega (arith, passed_more (is_vertex mesh.cells) v, c.put_inside.ensures.reads, c.loop-v.invariant.reads);
    }
