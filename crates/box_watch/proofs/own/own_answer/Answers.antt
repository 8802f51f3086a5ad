use Rattle.std.proofs.Common.{◌<◌, length, sym, ap, ◌∙◌, subst}
use Rattle.std.specs.Prelude.{slice_index}
use Rattle.std.specs.List.Sorted.{IsStrictlyIncreasing}
use Rattle.mesh_base.specs.declared.answer.Answer.{Answer}
use Rattle.box_watch.specs.Watches.{answer_at}
use Rattle.box_watch.proofs.Places.{own-answer, own-ascends}
use Rattle.box_watch.proofs.own.own_answer.Goals as goal

pub placed_answer-requires-clause-there : goal.placed_answer-requires-clause-there
placed_answer-requires-clause-there c =
    subst (λ l. c.args.q < length l) (sym c.requires.places) (own-answer c.args.session c.args.answers.now c.args.q c.requires.there).within

pub placed_answer-requires-clause-below : goal.placed_answer-requires-clause-below
placed_answer-requires-clause-below c =
    subst (λ l. slice_index l c.args.q < length c.args.answers.now) (sym c.requires.places) (own-answer c.args.session c.args.answers.now c.args.q c.requires.there).below

pub returns : goal.returns
returns c =
    let is = c.placed_answer.ensures ∙ (ap (λ l. answer_at c.args.answers.now (slice_index l c.args.q)) c.requires.places ∙ (own-answer c.args.session c.args.answers.now c.args.q c.requires.there).same) in
    record {
      answer = is;
      ascending = subst (λ (a : Answer). IsStrictlyIncreasing a.vertices) (sym is) (own-ascends c.args.session c.args.answers.now c.args.q c.requires.ascending c.requires.there);
    }
