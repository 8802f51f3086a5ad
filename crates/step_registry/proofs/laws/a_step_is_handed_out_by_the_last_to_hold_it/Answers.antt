use Rattle.std.proofs.Common.{◌≡◌, ℕ, [], ◌∷◌, take, sym, subst, false, refl}
use Rattle.std.specs.Prelude.{replicate}
use Rattle.step_registry.specs.Core.{State, fresh, after_from, freed_from, held}
use Rattle.step_registry.specs.Worked.{two_sessions}
use Rattle.step_registry.proofs.laws.a_step_is_handed_out_by_the_last_to_hold_it.Goals as goal

-- so many sessions that did nothing yet
abbrev begun : ℕ → State
begun n = record { newest = 0; closed = false; sessions = replicate n fresh }

pub returns-clause-pinned : goal.returns-clause-pinned
returns-clause-pinned c = λ job two. subst (λ (n : ℕ). held (after_from (begun n) (take 1 two_sessions)) ≡ 0 ∷ []) (sym two) refl

pub returns-clause-published : goal.returns-clause-published
returns-clause-published c = λ job two. subst (λ (n : ℕ). held (after_from (begun n) (take 2 two_sessions)) ≡ 0 ∷ 1 ∷ []) (sym two) refl

pub returns-clause-both : goal.returns-clause-both
returns-clause-both c = λ job two. subst (λ (n : ℕ). held (after_from (begun n) (take 3 two_sessions)) ≡ 0 ∷ 1 ∷ []) (sym two) refl

pub returns-clause-none : goal.returns-clause-none
returns-clause-none c = λ job two. subst (λ (n : ℕ). freed_from (begun n) (take 3 two_sessions) ≡ []) (sym two) refl

pub returns-clause-back : goal.returns-clause-back
returns-clause-back c = λ job two. subst (λ (n : ℕ). held (after_from (begun n) two_sessions) ≡ 1 ∷ []) (sym two) refl

pub returns-clause-handed : goal.returns-clause-handed
returns-clause-handed c = λ job two. subst (λ (n : ℕ). freed_from (begun n) two_sessions ≡ 0 ∷ []) (sym two) refl
