use Rattle.std.proofs.Common.{◌≡◌, map, take}
use Rattle.sample_meshes.specs.Listed.{cell_of}
use Rattle.sample_meshes.proofs.listed.cells_of.Given as goal

abbrev pub invariant-loop-row : goal.invariant-loop-row
invariant-loop-row l = l.cells.items ≡ map cell_of (take l.row-index l.rows)
