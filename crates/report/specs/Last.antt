-- Sessions that meet the last step alone.
use Rattle.std.specs.Prelude.{◌≡◌, ℕ, List, length, replicate, All}
use Rattle.run_script.specs.Jobs.{JobView, steps, turns_of}
use Rattle.mesh_base.specs.declared.answer.Answer.{Answer}
use Rattle.step_registry.specs.Lines.{turns_at}

-- each turn of the session needs the last step
abbrev pub NeedsLast : JobView → ℕ → Type 0
NeedsLast job s = All (λ turn. turn.need ≡ steps job) (turns_of job s)

-- the answers of a session's boxes at the last step
abbrev pub answered_last : JobView → ℕ → List Answer
answered_last job s = turns_at job s 0 (replicate (length (turns_of job s)) (steps job))
