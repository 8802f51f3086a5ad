use Rattle.std.proofs.Common.{take, All}
use Rattle.mesh_base.specs.Place.{IsPlace}
use Rattle.job_steps.proofs.maker.are_places.Given as goal

abbrev pub invariant-loop-point : goal.invariant-loop-point
invariant-loop-point l = All IsPlace (take l.point-index l.points)
