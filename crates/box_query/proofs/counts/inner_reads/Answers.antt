use Rattle.std.proofs.Common.{[], ◌∷◌, ◌∙◌, arith}
use Rattle.mesh_base.specs.Samples.{at, box, split_twice}
use Rattle.mesh_base.specs.declared.answer.Route.TheVariants.{Walk}
use Rattle.box_query.proofs.Counted.{route_of, list_of, bound_of}
use Rattle.box_query.proofs.counts.inner_reads.Goals as goal

pub at_most-requires : goal.at_most-requires
at_most-requires g c =
    let e = bound_of c.args.step.now.mesh split_twice c.args.area.now (box (at 4 4 4) (at 4 4 4)) Walk (4 ∷ []) 20 c.requires.mesh c.requires.area c.sample_answers.ensures.inner in
    omega (arith, e, c.answer_box.ensures.reads)

pub returns-clause-route : goal.returns-clause-route
returns-clause-route g c =
    c.in_ok-answer.ensures.route
    ∙ route_of c.args.step.now.mesh split_twice c.args.area.now (box (at 4 4 4) (at 4 4 4)) Walk (4 ∷ []) 20 c.requires.mesh c.requires.area c.sample_answers.ensures.inner

pub returns-clause-list : goal.returns-clause-list
returns-clause-list g c =
    c.in_ok-answer.ensures.list
    ∙ list_of c.args.step.now.mesh split_twice c.args.area.now (box (at 4 4 4) (at 4 4 4)) Walk (4 ∷ []) 20 c.requires.mesh c.requires.area c.sample_answers.ensures.inner
