use Rattle.corner_ranges.proofs.RangeLemmas.{corners_before-0, corners_before-next, corners_before-all}
use Rattle.corner_ranges.proofs.laws.ranges_are_whole.Goals as goal

pub returns : goal.returns
returns c = record { none = corners_before-0; next = corners_before-next; all = corners_before-all }
