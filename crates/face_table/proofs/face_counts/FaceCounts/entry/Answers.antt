use Rattle.std.proofs.Common.{◌≡◌, ℕ, ◌+◌, ◌-◌, length, ap, sym, ◌∙◌, arith}
use Rattle.std.specs.List.{slice_get}
use Rattle.mesh_base.specs.Mesh.{Face}
use Rattle.face_table.specs.Tally.{tally_in}
use Rattle.face_table.proofs.Homes.{entry_known, entry_past, entry_more}
use Rattle.face_table.proofs.face_counts.FaceCounts.entry.Goals as goal

pub returns-then-i-count-clause-counted : goal.returns-then-i-count-clause-counted
returns-then-i-count-clause-counted c =
    let r = c.index.result.now in
    sym (ap (λ t. tally_in t.entries r.0) c.self.view_is) ∙ entry_known c.self.inside.known.items c.self.inside.more.entries c.args.i r c.self.invariant.ascending (omega arith) c.index.ensures

pub returns-else-i-count-clause-entry : goal.returns-else-i-count-clause-entry
returns-else-i-count-clause-entry c =
    let e : c.args.i ≡ length c.self.inside.known.items + (c.args.i - c.len-count.result) = omega (arith, c.len-count.ensures) in
    sym (ap (λ t. slice_get t.entries c.args.i) c.self.view_is) ∙ entry_past c.self.inside.known.items c.self.inside.more.entries c.args.i (c.args.i - c.len-count.result) e
    ∙ sym (rw c.unwrap.ensures at c.get_index.ensures.entry)

pub returns-else-i-count-clause-counted : goal.returns-else-i-count-clause-counted
returns-else-i-count-clause-counted c =
    let r : Face × ℕ = (c.unwrap.result.0.now, c.unwrap.result.1.now) in
    sym (ap (λ t. tally_in t.entries r.0) c.self.view_is) ∙ entry_more c.self.inside.known.items c.self.inside.more.entries r c.self.invariant.apart (rw c.unwrap.ensures at c.get_index.ensures.value)
