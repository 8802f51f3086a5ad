-- For the tests.
use Rattle.std.specs.Prelude.{◌≡◌, ℕ, ◌<◌, List, [], ◌∷◌, length, drop, slice_index_or, refl}
use Rattle.std.proofs.Common.{arith, suc, zero, sym, ◌∙◌, subst}
use Rattle.atomic_table.specs.Seated.{TableId}
use Rattle.run_script.specs.Jobs.{JobView}
use Rattle.step_registry.specs.Core.{fresh}
use Rattle.step_registry.specs.CoreLaws.{get-replicate}
use Rattle.step_table.specs.Seats.{SessionView, EachSession, new_session}
use Rattle.step_table.specs.Tests.{Asks, IsReady}

pub second_is : (xs : List SessionView) (d : SessionView) → slice_index_or (drop 1 xs) 0 d ≡ slice_index_or xs 1 d
second_is [] d = refl
second_is (x ∷ xs) d = refl

pub both : (P : ℕ → SessionView → Type 0) (a b : SessionView) → P 0 a → P 1 b → EachSession P (a ∷ b ∷ [])
both P a b pa pb zero d lt = pa
both P a b pa pb (suc zero) d lt = pb
both P a b pa pb (suc (suc s)) d lt = absurd (omega arith)

pub ready_new : (lock : TableId) (job whole : JobView) (s : ℕ) (v : SessionView) → v ≡ new_session lock job s → job ≡ whole → Asks whole s → IsReady lock v × (v.job ≡ whole)
ready_new lock job whole s v is same asks =
    subst (λ (w : SessionView). IsReady lock w × (w.job ≡ whole)) (sym is)
    (record { table = refl; fresh = get-replicate (length job.sessions) s fresh; asks = subst (λ (j : JobView). Asks j s) (sym same) asks }, same)
