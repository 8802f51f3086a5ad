use Rattle.std.proofs.Common.{eqb, map, ◌∙◌, ap}
use Rattle.box_crawl.proofs.MarkLemmas.{map-zeros}
use Rattle.box_crawl.proofs.marks.Marks.with_round.Goals as goal

pub returns-clause-marks : goal.returns-clause-marks
returns-clause-marks c =
    ap (map (λ n. eqb n c.args.round)) (c.in_ok-numbers.ensures.items_if_clones_equal (λ y q. q)) ∙ map-zeros c.args.round c.args.points
