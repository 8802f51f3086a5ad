use Rattle.std.proofs.Common.{◌≡◌, ℕ, ◌<◌, ◌≤◌, eqb, [], length, get_or, sum_by, Contains, sym, ap, subst, ◌∙◌, arith}
use Rattle.std.specs.List.Sorted.{IsNonDecreasing}
use Rattle.std.proofs.lemmas.List.FromFn.{length-map-range_with_len}
use Rattle.std.proofs.lemmas.List.Sorted.{IsNonDecreasingBy-from_sort, sum_by-IsPermutation}
use Rattle.mesh_base.specs.Numbers.{IsListOf}
use Rattle.mesh_base.proofs.NumberLaws.{of_vertices}
use Rattle.mesh_base.proofs.Once.{bit}
use Rattle.cell_box.specs.Cells.{cells_with}
use Rattle.cell_box.specs.Often.{times}
use Rattle.cell_box.proofs.Totals.{cells_found}
use Rattle.cell_box.proofs.select.cells_of.Goals as goal

pub gather-requires : goal.gather-requires
gather-requires c = record {
  points = λ v m.
      let mesh = c.args.step.now.mesh in
      let p = of_vertices mesh v (c.requires.vertices v m) in
      let l = ap length c.requires.incidence in
      omega (arith, p.1, l, length-map-range_with_len (cells_with mesh.cells) 0 (length mesh.points));
}

pub often-requires-clause-sorted : goal.often-requires-clause-sorted
often-requires-clause-sorted c = subst IsNonDecreasing (sym c.deref.ensures.value) (IsNonDecreasingBy-from_sort (λ (x : ℕ). x) c.sort_unstable.new.self.items c.sort_unstable.ensures.sorted)

pub returns : goal.returns
returns c =
    let mesh = c.args.step.now.mesh in
    let vs = c.args.inside.now in
    let ys = c.deref.result.now in
    c.of.ensures ∙ cells_found mesh c.points-points.ensures.valid vs c.requires.ascending (λ v m. (of_vertices mesh v (c.requires.vertices v m)).1) c.args.how ys c.in_ok-often.field-0.items
    (λ i.
    ap (λ l. times l i) c.deref.ensures.value ∙ sum_by-IsPermutation (λ x. bit (eqb x i)) c.in_ok-gathered.gathered.items c.sort_unstable.new.self.items c.sort_unstable.ensures.permutation
    ∙ c.in_ok-gathered.ensures i ∙ ap (λ rows. sum_by (λ v. times (get_or rows v []) i) vs) c.requires.incidence)
    (subst (λ n. IsListOf (λ i. n ≤ times ys i) c.in_ok-often.field-0.items) c.least.ensures c.in_ok-often.ensures)
