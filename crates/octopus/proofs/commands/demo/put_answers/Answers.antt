use Rattle.octopus.proofs.DemoLemmas.{answers_more}
use Rattle.octopus.proofs.commands.demo.put_answers.Goals as goal

pub loop-answer-preserved : goal.loop-answer-preserved
loop-answer-preserved c =
    answers_more c.args.session c.args.answers.now c.loop-answer.answer-index c.answer-item.result c.args.out.now.items c.loop-answer.out.items c.put_answer_of.new.out.items
    c.loop-answer-test.true c.answer-item.is c.loop-answer.invariant c.in_ok-put_answer_of.ensures
