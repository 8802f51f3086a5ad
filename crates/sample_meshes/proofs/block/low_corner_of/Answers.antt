use Rattle.sample_meshes.proofs.BlockRoom.{cube_room}
use Rattle.sample_meshes.proofs.block.low_corner_of.Goals as goal

pub returns-clause-room : goal.returns-clause-room
returns-clause-room c = cube_room c.args.n c.args.cube c.requires.side.0 c.requires.number
