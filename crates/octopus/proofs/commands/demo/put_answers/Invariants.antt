use Rattle.std.proofs.Common.{◌≡◌, ◌++◌, take}
use Rattle.std.specs.Prelude.{flat_map, filter}
use Rattle.step_registry.specs.Lines.{of_session}
use Rattle.octopus.specs.Demo.{answer_words}
use Rattle.octopus.proofs.commands.demo.put_answers.Given as goal

abbrev pub invariant-loop-answer : goal.invariant-loop-answer
invariant-loop-answer l = l.out.items ≡ l.fn.out.items ++ flat_map answer_words (filter (of_session l.session) (take l.answer-index l.answers))
