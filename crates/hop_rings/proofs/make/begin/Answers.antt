use Rattle.std.proofs.Common.{◌≡◌, ℕ, ◌-◌, ◌<◌, ◌++◌, List, [], cond, length, get_or, take, replicate, Option, Some, None, Contains, vec_len, refl, ap, subst, ◌∙◌, arith, length-set}
use Rattle.std.proofs.lemmas.List.{take_all, length-replicate}
use Rattle.std.proofs.lemmas.List.Elements.{Contains-get_or}
use Rattle.mesh_base.specs.Mesh.{MeshView, vertices}
use Rattle.mesh_base.proofs.NumberLaws.{of_vertices}
use Rattle.hop_rings.specs.Reached.{from_at}
use Rattle.hop_rings.proofs.Options.{is_listed}
use Rattle.hop_rings.proofs.Spreading.{begin_more, begin_none, near_begin}
use Rattle.hop_rings.proofs.make.begin.Goals as goal

-- an empty list, filled up
filled : (n m k : ℕ) (old new : List (Option ℕ)) → old ≡ [] → k ≡ 0 → n ≡ m → new ≡ take n old ++ replicate (n - k) None → new ≡ replicate m None
filled n m k old new empty zero same h =
    let count : n - k ≡ m = omega arith in
    h ∙ ap (λ l. take n l ++ replicate (n - k) None) empty ∙ ap (λ l. l ++ replicate (n - k) None) (take_all n [] (omega arith)) ∙ ap (λ k. replicate k None) count

pub loop-v-init : goal.loop-v-init
loop-v-init c =
    let points = length c.args.step.now.mesh.points in
    let none : vec_len c.new-from.result ≡ length c.new-from.result.items = omega arith in
    let empty = c.new-from.ensures.items in
    let zero : vec_len c.new-from.result ≡ 0 = none ∙ ap length empty in
    let e = filled c.points.result points (vec_len c.new-from.result) c.new-from.result.items c.resize.new.self.items empty zero c.points.ensures.points c.in_ok-resize.ensures.items in
    record { len = ap length e ∙ length-replicate points None; each = begin_none points points c.resize.new.self.items e }

-- the next vertex is a point
point : (mesh : MeshView) (vs : List ℕ) (i : ℕ) → ((v : ℕ) → Contains vs v → Contains (vertices mesh) v) → i < length vs → get_or vs i 0 < length mesh.points
point mesh vs i inside lt = (of_vertices mesh (get_or vs i 0) (inside (get_or vs i 0) (Contains-get_or vs i 0 lt))).1

pub index_mut-requires : goal.index_mut-requires
index_mut-requires c =
    let p = point c.args.step.now.mesh c.args.inside.now c.loop-v.v-index c.requires.vertices (omega arith) in
    let e : vec_len c.loop-v.from ≡ length c.loop-v.from.items = omega arith in
    omega (arith, p, e, c.loop-v.invariant.len)

pub loop-v-preserved : goal.loop-v-preserved
loop-v-preserved c =
    let vs = c.args.inside.now in
    let i = c.loop-v.v-index in
    let from = c.loop-v.from.items in
    let points = length c.args.step.now.mesh.points in
    let lt : i < length vs = omega arith in
    let p = point c.args.step.now.mesh vs i c.requires.vertices lt in
    record {
      len = length-set from (get_or vs i 0) (Some (get_or vs i 0)) ∙ c.loop-v.invariant.len;
      each = begin_more vs from i points (get_or vs i 0) lt refl p c.loop-v.invariant.len c.loop-v.invariant.each;
    }

pub returns : goal.returns
returns c =
    let vs = c.args.inside.now in
    let mesh = c.args.step.now.mesh in
    record {
      near = near_begin mesh vs c.loop-v.from.items (λ v m. (of_vertices mesh v (c.requires.vertices v m)).1) c.loop-v.invariant.len
          (λ w lt. subst (λ l. from_at c.loop-v.from.items w ≡ cond (is_listed l w) (Some w) None) (take_all c.loop-v.v-index vs (omega arith)) (c.loop-v.invariant.each w lt));
    }
