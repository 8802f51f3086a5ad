use Rattle.std.proofs.Common.{◌++◌, ap, subst, arith, length-append}
use Rattle.std.specs.List.{IsDistinct}
use Rattle.std.specs.Map.{keys_of}
use Rattle.mesh_base.specs.Mesh.{face_eq}
use Rattle.face_table.specs.Tally.{single_count}
use Rattle.face_table.proofs.Sums.{single_count-le}
use Rattle.face_table.proofs.Homes.{distinct_known, distinct_both}
use Rattle.face_table.proofs.face_counts.FaceCounts.len.Goals as goal

pub returns-clause-few : goal.returns-clause-few
returns-clause-few c v =
    let d = ap (λ t. single_count t.entries v) c.self.view_is in
    omega (arith, d, single_count-le (c.self.inside.known.items ++ c.self.inside.more.entries) v, length-append c.self.inside.known.items c.self.inside.more.entries, c.len.ensures, c.len-2.ensures.small)

pub returns-clause-unique : goal.returns-clause-unique
returns-clause-unique c =
    subst (λ t. IsDistinct face_eq (keys_of t.entries)) c.self.view_is (distinct_both c.self.inside.known.items c.self.inside.more.entries (distinct_known c.self.inside.known.items c.self.invariant.ascending) c.len-2.ensures.unique c.self.invariant.apart)
