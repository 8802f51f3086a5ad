use Rattle.std.proofs.Common.{[], ◌∷◌, ◌∙◌, arith}
use Rattle.mesh_base.specs.Samples.{at, box, split_twice}
use Rattle.mesh_base.specs.declared.answer.Route.TheVariants.{Scan}
use Rattle.box_query.proofs.Counted.{route_of, list_of, bound_of}
use Rattle.box_query.proofs.counts.far_reads.Goals as goal

pub at_most-requires : goal.at_most-requires
at_most-requires g c =
    let e = bound_of c.args.step.now.mesh split_twice c.args.area.now (box (at 100 100 100) (at 101 101 101)) Scan [] 15 c.requires.mesh c.requires.area c.sample_answers.ensures.far in
    omega (arith, e, c.answer_box.ensures.reads)

pub returns-clause-route : goal.returns-clause-route
returns-clause-route g c =
    c.in_ok-answer.ensures.route
    ∙ route_of c.args.step.now.mesh split_twice c.args.area.now (box (at 100 100 100) (at 101 101 101)) Scan [] 15 c.requires.mesh c.requires.area c.sample_answers.ensures.far

pub returns-clause-list : goal.returns-clause-list
returns-clause-list g c =
    c.in_ok-answer.ensures.list
    ∙ list_of c.args.step.now.mesh split_twice c.args.area.now (box (at 100 100 100) (at 101 101 101)) Scan [] 15 c.requires.mesh c.requires.area c.sample_answers.ensures.far
