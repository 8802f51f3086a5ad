use Rattle.std.proofs.Common.{◌≡◌, ◌+◌, ◌++◌, length, vec_len, ap, subst, ◌∙◌, cond, arith}
use Rattle.mesh_base.specs.Mesh.{face_eq}
use Rattle.face_table.specs.Known.{IsBetween}
use Rattle.face_table.specs.Tally.{tally_in}
use Rattle.face_table.proofs.Homes.{push_tally, none_there}
use Rattle.face_table.proofs.face_counts.FaceCounts.put.Goals as goal

pub returns-then-is_past : goal.returns-then-is_past
returns-then-is_past c = record {
  tally = λ f.
      let es = c.self.inside.known.items in
      let fs = c.self.inside.more.entries in
      let len : vec_len c.self.inside.known ≡ length es = omega arith in
      let none = none_there fs (c.is_empty.ensures.0 c.if-is_empty.true) in
      let past = subst (λ n. IsBetween es n n c.args.face) len (c.is_past.ensures c.if-is_past.true) in
      ap (λ l. tally_in (l ++ fs) f) c.in_ok-push.ensures.items ∙ push_tally es fs c.args.face f 1 none past c.self.invariant
      ∙ ap (λ t. tally_in t.entries f + cond (face_eq c.args.face f) 1 0) c.self.view_is;
}
