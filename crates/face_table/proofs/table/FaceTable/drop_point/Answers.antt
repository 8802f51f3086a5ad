use Rattle.std.proofs.Common.{◌≡◌, ◌-◌, true, ap, ◌∙◌, arith}
use Rattle.std.proofs.lemmas.Bool.{false≢true}
use Rattle.mesh_base.specs.Mesh.{Face, is_on}
use Rattle.face_table.specs.Tally.{tally_of}
use Rattle.mesh_base.proofs.FaceLaws.{face_count-free}
use Rattle.face_table.proofs.Listed.{without_point, none_single}
use Rattle.face_table.proofs.table.FaceTable.drop_point.Goals as goal

pub invariant_of-self : goal.invariant_of-self
invariant_of-self c =
    let t = c.requires.free in
    let counts = c.self.inside.counts.entries in
    let n = c.len-count.result - 1 in
    let p = ap (λ t. t.points) c.self.view_is in
    let e : c.args.self.now.points - 1 ≡ n = omega (arith, p, c.len-count.ensures, c.requires.some) in
    let free = λ (f : Face) (on : is_on f n ≡ true). ap (λ t. tally_of t f) c.self.view_is ∙ t.1 f ∙ face_count-free t.0 f (c.args.self.now.points - 1) t.2 (ap (is_on f) e ∙ on) in (
      without_point counts c.self.inside.singles.items c.truncate.new.self.items c.self.inside.surface n (omega (arith, p, c.len-count.ensures, c.requires.some)) c.truncate.ensures.items
          free (none_single counts n c.len-len.ensures.unique free) c.self.invariant.0,
      λ e. absurd (false≢true e),
    )

pub returns-clause-cells : goal.returns-clause-cells
returns-clause-cells c cells h f = ap (λ t. tally_of t f) c.self.view_is ∙ h f
