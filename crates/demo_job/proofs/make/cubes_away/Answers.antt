use Rattle.std.proofs.Common.{◌*◌, w32, arith}
use Rattle.std.proofs.lemmas.Int.{to_z_pos}
use Rattle.demo_job.proofs.make.cubes_away.Goals as goal

pub returns : goal.returns
returns c = to_z_pos w32 (16 * c.args.cubes) (omega arith)
