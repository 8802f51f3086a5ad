-- What Done says where a job is due.
use Rattle.std.proofs.Common.{◌≡◌, ℕ, List, Option, Some, None, subst}
use Rattle.std.specs.Prelude.{IfSome}
use Rattle.oct_edge.specs.Outside.{Files}
use Rattle.run_script.specs.Jobs.{JobView}
use Rattle.octopus.specs.declared.status.Status.{Status}
use Rattle.octopus.specs.declared.status.Status.TheVariants.{Done}
use Rattle.octopus.specs.Due.{Due, Play, Watched}
use Rattle.octopus.specs.Written.{Gives, WritesReport, WritesWatches}

of-gives : (job : JobView) (old new : Option (List ℕ)) → Gives (Play job) Done old new → WritesReport job old new
of-gives job old new gives = record { text = gives.1.text; tells = gives.1.spelled; added = gives.1.added }

pub headline-from : (told : Option Files) (due_at : Files → Due) (status : Status) (old new : Option (List ℕ)) → IfSome told (λ files. Gives (due_at files) status old new)
    → IfSome told (λ files. (job : JobView) → due_at files ≡ Play job → status ≡ Done → WritesReport job old new)
headline-from None due_at status old new gives = tt
headline-from (Some files) due_at status old new gives =
    λ job due_is done. of-gives job old new (subst (λ d. Gives d Done old new) due_is (subst (λ s. Gives (due_at files) s old new) done gives))

watches-of-gives : (job : JobView) (old new : Option (List ℕ)) → Gives (Watched job) Done old new → WritesWatches job old new
watches-of-gives job old new gives = record { text = gives.1.text; tells = gives.1.spelled; added = gives.1.added }

pub watched-from : (told : Option Files) (due_at : Files → Due) (status : Status) (old new : Option (List ℕ)) → IfSome told (λ files. Gives (due_at files) status old new)
    → IfSome told (λ files. (job : JobView) → due_at files ≡ Watched job → status ≡ Done → WritesWatches job old new)
watched-from None due_at status old new gives = tt
watched-from (Some files) due_at status old new gives =
    λ job due_is done. watches-of-gives job old new (subst (λ d. Gives d Done old new) due_is (subst (λ s. Gives (due_at files) s old new) done gives))
