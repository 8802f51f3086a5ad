use Rattle.std.proofs.Common.{◌≡◌, ◌<◌, ◌≤◌, ◌∙◌, Bool, true, false, not, pos, rules, ap, sym, subst, refl, length, filter, All, map, arith, w64}
use Rattle.std.specs.List.{range_with_len}
use Rattle.std.proofs.lemmas.Int.{to_z-of_z, to_z_pos}
use Rattle.std.specs.Prelude.{FitsSigned}
use Rattle.std.proofs.lemmas.List.{length-map}
use Rattle.mesh_base.specs.Place.{Place}
use Rattle.mesh_base.specs.Mesh.{MeshView, is_vertex, are_neighbours, neighbours, place}
use Rattle.mesh_base.specs.Kernel.{held_place, floor_of, mean}
use Rattle.topo.specs.Topology.{mesh_at}
use Rattle.move_kernels.proofs.PlaceLaws.{widened, some_within, few_some, mean_is, same_place}
use Rattle.move_kernels.proofs.kernels.RelaxedMotion.place.Goals as goal

pub sum_of-x-requires-clause-within : goal.sum_of-x-requires-clause-within
sum_of-x-requires-clause-within c =
    let m = c.args.self.now in
    let n = m.shape.now.points in
    let p = are_neighbours m.shape.now.cells c.args.v in
    subst (λ l. All (λ w. w < length m.old.now) l) (sym c.neighbours-near.ensures.listed) (subst (λ k. All (λ w. w < k) (filter p (range_with_len 0 n))) (sym m.each_has_one) (some_within p n))

pub sum_of-x-requires-clause-few : goal.sum_of-x-requires-clause-few
sum_of-x-requires-clause-few c =
    let m = c.args.self.now in
    let few = few_some (are_neighbours m.shape.now.cells c.args.v) m.shape.now.points in
    omega (arith, few, ap length c.neighbours-near.ensures.listed, m.few, m.each_has_one)

pub returns-then-is_empty : goal.returns-then-is_empty
returns-then-is_empty c =
    let none : is_vertex c.args.self.now.shape.now.cells c.args.v ≡ false = sym c.neighbours-near.ensures.vertex ∙ ap not (sym c.is_empty.ensures ∙ c.if-is_empty.true) in
    let h = rw (
      widened c.x.result (record { sfits = c.x.type_inv }),
      widened c.y.result (record { sfits = c.y.type_inv }),
      widened c.z.result (record { sfits = c.z.type_inv }),
      c.x.ensures.value,
      c.y.ensures.value,
      c.z.ensures.value,
    ) at c.held_point.ensures in
    rw none (h ∙ ap held_place c.get-p.ensures)

pub returns : goal.returns
returns c =
    let m = c.args.self.now in
    let mesh : MeshView = mesh_at m.old.now m.shape.now in
    let some : is_vertex m.shape.now.cells c.args.v ≡ true = sym c.neighbours-near.ensures.vertex ∙ ap not (sym c.is_empty.ensures ∙ c.if-is_empty.false) in
    let near = c.neighbours-near.result.now in
    let n = length near in
    let sum = c.sum_of-x.result in
    let few = few_some (are_neighbours m.shape.now.cells c.args.v) m.shape.now.points in
    let count = to_z_pos w64 n (omega (arith, few, ap length c.neighbours-near.ensures.listed, m.few, m.each_has_one)) in
    let fx : FitsSigned w64 sum.0 = search rules in
    let fy : FitsSigned w64 sum.1 = search rules in
    let fz : FitsSigned w64 sum.2 = search rules in
    let x = rw (to_z-of_z w64 sum.0 fx, count) at c.div_euclid.ensures in
    let y = rw (to_z-of_z w64 sum.1 fy, count) at c.div_euclid-2.ensures in
    let z = rw (to_z-of_z w64 sum.2 fz, count) at c.div_euclid-3.ensures in
    let q : Place = (floor_of sum.0 (pos n), floor_of sum.1 (pos n), floor_of sum.2 (pos n)) in
    let h : c.held_point-2.result ≡ held_place q =
    c.held_point-2.ensures
    ∙ ap held_place (same_place _ q
    (to_z-of_z w64 c.div_euclid.result (record { sfits = c.div_euclid.type_inv }) ∙ x)
    (to_z-of_z w64 c.div_euclid-2.result (record { sfits = c.div_euclid-2.type_inv }) ∙ y)
    (to_z-of_z w64 c.div_euclid-3.result (record { sfits = c.div_euclid-3.type_inv }) ∙ z)) in
    let at = mean_is (map (place mesh) near) sum (pos n) c.sum_of-x.ensures (ap pos (sym (length-map near (place mesh)))) in
    let all = ap (λ l. mean (map (place mesh) l)) (c.neighbours-near.ensures.mesh mesh (m.each_has_one, refl)) in
    rw some (h ∙ ap held_place (at ∙ all))
