use Rattle.std.proofs.Common.{ℕ, cond, ap, arith}
use Rattle.std.proofs.lemmas.List.{take_all}
use Rattle.std.proofs.lemmas.List.Sums.{sum_by_more_le}
use Rattle.mesh_base.specs.Mesh.{Face, face_eq}
use Rattle.face_table.specs.Corner.{seen_of}
use Rattle.face_table.proofs.Sums.{face_eq-refl}
use Rattle.face_table.proofs.groups.count_seen.Goals as goal

pub put-requires : goal.put-requires
put-requires c = record {
  fits =
      let f = c.index.result.now in
      let seen = c.sort.new.seen.items in
      let m = sum_by_more_le (λ (g : Face). cond (face_eq g f) 1 0) seen c.loop-i.i f (omega arith) in
      let e = ap {B = ℕ} (λ (g : Face). cond (face_eq g f) 1 0) c.index.ensures in
      let z = ap {B = ℕ} (λ b. cond b 1 0) (face_eq-refl f) in
      omega (arith, m, e, z, c.sort.ensures f, c.loop-i.invariant f, c.requires.fits f);
}

pub returns-clause-tally : goal.returns-clause-tally
returns-clause-tally c f =
    let t = ap (λ l. seen_of l f) (take_all c.loop-i.i c.sort.new.seen.items (omega arith)) in
    omega (arith, t, c.sort.ensures f, c.loop-i.invariant f)
