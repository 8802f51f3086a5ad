use Rattle.std.proofs.Common.{arith, ◌≡◌, ◌≤◌, ◌++◌, ◌∷◌, [], length, sym, subst, ap, ◌∙◌, length-append}
use Rattle.std.specs.Arc.{arc_value}
use Rattle.step_registry.specs.Core.{held, after}
use Rattle.step_registry.specs.Rows.{numbers, length-numbers}
use Rattle.step_registry.proofs.KeptSteps.{rows_fit_now, rows_fewer, held_now}
use Rattle.step_registry.proofs.registry.Registry.held.Goals as goal

pub held_numbers-requires : goal.held_numbers-requires
held_numbers-requires c = subst (λ l. length l ≤ 8) (sym c.as_slice.ensures.value) (rows_fit_now _ _ _ _ _ _ _ _ _ c.self.invariant)

pub returns-clause-held : goal.returns-clause-held
returns-clause-held c = c.held_numbers.ensures ∙ (ap (λ l. numbers l ++ c.self.inside.newest ∷ []) c.as_slice.ensures.value ∙ (held_now _ _ _ _ _ _ _ _ _ c.self.invariant ∙ ap (λ v. held (after v.job v.journal)) c.self.view_is))

pub returns-clause-few : goal.returns-clause-few
returns-clause-few c =
    let is : length c.held_numbers.result.items ≡ length (numbers c.as_slice.result.now ++ c.self.inside.newest ∷ []) = ap length c.held_numbers.ensures in
    let same : length c.as_slice.result.now ≡ length c.self.inside.older.items = ap length c.as_slice.ensures.value in
    let few = rows_fewer _ _ _ _ _ _ _ _ _ c.self.invariant in
    let job : length (arc_value c.self.inside.job).sessions ≡ length c.args.self.now.job.sessions = ap (λ v. length v.job.sessions) c.self.view_is in
    omega (arith, length-append (numbers c.as_slice.result.now) (c.self.inside.newest ∷ []), length-numbers c.as_slice.result.now)
