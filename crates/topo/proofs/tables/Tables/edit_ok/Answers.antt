use Rattle.std.proofs.Common.{rules}
use Rattle.topo.proofs.TopologyLaws.{fits_one}
use Rattle.topo.proofs.tables.Tables.edit_ok.Goals as goal

pub returns-in-Point-clause-fits : goal.returns-in-Point-clause-fits
returns-in-Point-clause-fits c = fits_one c.args.self.now c.args.edit.now _ (λ mesh is. search rules)

pub returns-then-has_points-clause-fits : goal.returns-then-has_points-clause-fits
returns-then-has_points-clause-fits c = fits_one c.args.self.now c.args.edit.now _ (λ mesh is. search rules)

pub returns-in-Remove-clause-fits : goal.returns-in-Remove-clause-fits
returns-in-Remove-clause-fits c = fits_one c.args.self.now c.args.edit.now _ (λ mesh is. search rules)

pub returns-then-has_point_room-clause-fits : goal.returns-then-has_point_room-clause-fits
returns-then-has_point_room-clause-fits c = fits_one c.args.self.now c.args.edit.now _ (λ mesh is. search rules)
