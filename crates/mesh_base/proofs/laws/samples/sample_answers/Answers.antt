use Rattle.std.proofs.Common.{[], ◌∷◌, refl, ap, length, arith}
use Rattle.mesh_base.specs.Samples.{at, box, split_twice}
use Rattle.mesh_base.specs.declared.answer.Route.TheVariants.{Probe, Walk}
use Rattle.mesh_base.proofs.AnswerLaws.{answer_complete}
use Rattle.mesh_base.proofs.SampleLaws.{gives, covered}
use Rattle.mesh_base.proofs.laws.samples.sample_answers.Goals as goal

pub returns-clause-inner : goal.returns-clause-inner
returns-clause-inner c = gives split_twice (box (at 4 4 4) (at 4 4 4)) Walk (4 ∷ []) 20 refl refl refl refl

pub returns-clause-front : goal.returns-clause-front
returns-clause-front c = gives split_twice (box (at 2 0 0) (at 16 6 3)) Probe (1 ∷ []) 8 refl refl refl refl

pub returns-clause-whole : goal.returns-clause-whole
returns-clause-whole c = gives split_twice (box (at 0 0 0) (at 16 16 16)) Probe (0 ∷ 1 ∷ 2 ∷ 3 ∷ 4 ∷ 5 ∷ []) 32 refl refl refl refl

pub returns-clause-front_uncovered : goal.returns-clause-front_uncovered
returns-clause-front_uncovered c cover =
    let part = gives split_twice (box (at 2 0 0) (at 16 6 3)) Probe (1 ∷ []) 8 refl refl refl refl in
    let same = ap length (answer_complete split_twice (box (at 2 0 0) (at 16 6 3)) Probe (1 ∷ []) part.0 cover) in
    absurd (omega arith)

pub returns-clause-whole_covered : goal.returns-clause-whole_covered
returns-clause-whole_covered c = covered split_twice (box (at 0 0 0) (at 16 16 16)) (λ v m. m)
