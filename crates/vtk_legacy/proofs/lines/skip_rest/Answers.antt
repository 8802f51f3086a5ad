use Rattle.vtk_legacy.proofs.Advance.{no_line, no_more_lines}
use Rattle.std.proofs.Common.{inl, inr}
use Rattle.vtk_legacy.proofs.MetadataLemmas.{skipped_first}
use Rattle.vtk_legacy.proofs.lines.skip_rest.Goals as goal

pub returns-in-Blank : goal.returns-in-Blank
returns-in-Blank c got =
    elim c.in-Blank.is [
      | inl e ↦ let h = rw e at c.skip_line.ensures in rw c.requires (skipped_first _ _ _ _ _ h, h.shorter, record { ended = h.ended; end = h.end })
      | inr e ↦ let h = rw e at c.skip_line.ensures in rw c.requires (skipped_first _ _ _ _ _ h, h.shorter, record { ended = h.ended; end = h.end })
    ]

pub returns-in-More : goal.returns-in-More
returns-in-More c got = elim c.in-More.is [ inl e ↦ no_line _ _ _ _ (rw e at c.skip_line.ensures) | inr e ↦ no_more_lines _ _ _ _ (rw e at c.skip_line.ensures) ]
