use Rattle.std.proofs.Common.{[], refl}
use Rattle.face_table.proofs.tests.points_come_and_go.Goals as goal

pub drop_point-requires-clause-free : goal.drop_point-requires-clause-free
drop_point-requires-clause-free g c = ([], c.in_ok-put_point.ensures.cells [] c.in_ok-table.ensures.cells, refl)
