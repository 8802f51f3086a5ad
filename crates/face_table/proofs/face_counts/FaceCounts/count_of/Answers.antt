use Rattle.std.proofs.Common.{ap, sym, ◌∙◌}
use Rattle.face_table.specs.Tally.{tally_in}
use Rattle.face_table.proofs.Homes.{read_tally, past_tally}
use Rattle.face_table.proofs.face_counts.FaceCounts.count_of.Goals as goal

pub returns-in-Some : goal.returns-in-Some
returns-in-Some c = sym (read_tally c.self.inside.known.items c.self.inside.more.entries c.args.face.now c.in-Some.i c.index.result.now c.index.ensures c.in-Some.ensures) ∙ ap (λ t. tally_in t.entries c.args.face.now) c.self.view_is

pub returns-in-None : goal.returns-in-None
returns-in-None c = c.count_of.ensures ∙ sym (past_tally c.self.inside.known.items c.self.inside.more.entries c.args.face.now c.in-None.ensures) ∙ ap (λ t. tally_in t.entries c.args.face.now) c.self.view_is
