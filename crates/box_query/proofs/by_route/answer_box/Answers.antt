use Rattle.box_query.proofs.by_route.answer_box.Goals as goal

pub returns-clause-inside : goal.returns-clause-inside
returns-clause-inside g c =
    c.answers_are_scans.ensures.inside c.args.step.now.mesh c.args.area.now c.in_ok-route.route c.in_ok-route.list c.in_ok-route.ensures.answer
