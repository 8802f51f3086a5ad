use Rattle.std.proofs.Common.{inl, inr}
use Rattle.vtk_legacy.proofs.Advance.{no_line, no_more_lines}
use Rattle.vtk_legacy.proofs.MetadataLemmas.{skipped_blank, skipped_text}
use Rattle.vtk_legacy.proofs.lines.skip_one.Goals as goal

pub returns-in-Blank : goal.returns-in-Blank
returns-in-Blank c got = rw c.requires (skipped_blank _ _ _ _ c.in-Blank.ensures, c.in-Blank.ensures.shorter, record { ended = c.in-Blank.ensures.ended; end = c.in-Blank.ensures.end })

pub returns-in-Text : goal.returns-in-Text
returns-in-Text c got = rw c.requires (skipped_text _ _ _ _ c.in-Text.ensures, c.in-Text.ensures.shorter, record { ended = c.in-Text.ensures.ended; end = c.in-Text.ensures.end })

pub returns-in-More : goal.returns-in-More
returns-in-More c got = elim c.in-More.is [ inl e ↦ no_line _ _ _ _ (rw e at c.skip_line.ensures) | inr e ↦ no_more_lines _ _ _ _ (rw e at c.skip_line.ensures) ]
