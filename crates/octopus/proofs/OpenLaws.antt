-- How many files were opened, and what a text that is too long says of the file.
use Rattle.std.proofs.Common.{◌≡◌, ℕ, ◌+◌, ◌≤◌, inl, inr, ◌⊎◌, Bool, true, false, List, [], length, Option, Some, None, refl, sym, ◌∙◌, subst, arith}
use Rattle.std.specs.Prelude.{IfSome, Result, Ok, Err, Vec, nat_lt, if◌then◌else◌}
use Rattle.std.specs.declared.alloc.Global.{Global}
use Rattle.oct_edge.specs.Outside.{Files}
use Rattle.mesh_base.specs.Mesh.{MeshView}
use Rattle.vtk_legacy.specs.Readings.{Fault}
use Rattle.vtk_legacy.specs.MeshText.{mesh_text}
use Rattle.octopus.specs.declared.refusal.Refusal.{Refusal}
use Rattle.octopus.specs.declared.outcome.Early.{Early}
use Rattle.octopus.specs.declared.outcome.Early.TheVariants as early
use Rattle.octopus.specs.declared.status.Status.{Status}
use Rattle.octopus.specs.declared.status.Status.TheVariants.{Done, Memory, ReadFault, WriteFault, TooLong}
use Rattle.octopus.specs.Refusals.{status_of_refusal}
use Rattle.run_script.specs.Jobs.{JobView, checked}
use Rattle.octopus.specs.Due.{Due, Missing, Refuse, Text, mesh_limit, on_mesh, on_script, with_mesh, with_script, with_job}
use Rattle.octopus.specs.Outcomes.{status_of, IfRefused, Settles, Loads}
use Rattle.octopus.specs.Opened.{is_mesh, accepted, most_of_job, limit_of, IsReadPast, ReadsPast}

-- ---- a mesh and a script

one-more : (b : Bool) (before now : ℕ) → now ≤ before + 1 → now ≤ before + (if b then 2 else 1)
one-more true before now more = omega (arith, more)
one-more false before now more = more

-- the mesh alone
pub one_opened : (files : Option Files) (mesh : List ℕ) (before now : ℕ) → now ≤ before + 1 → now ≤ before + most_of_job files mesh
one_opened None mesh before now more = omega (arith, more)
one_opened (Some files) mesh before now more = one-more (accepted (files mesh)) before now more

differ : {why : Refusal} → Missing ≡ Refuse why → ⊥
differ e = cc

apart : Missing ≡ Text [] → ⊥
apart e = cc

-- what is done with a mesh doesn't matter where there is none
same-both : (d : Due) (mesh : MeshView) → ((go : MeshView → Due) → d ≡ go mesh) → ⊥
same-both d mesh same = apart (sym (same (λ _. Missing)) ∙ same (λ _. Text []))

mesh-read : (read : Result MeshView Fault) (mesh : MeshView) → ((go : MeshView → Due) → on_mesh read go ≡ go mesh) → is_mesh read ≡ true
mesh-read (Ok x) mesh loads = refl
mesh-read (Err fault) mesh loads = absurd (same-both _ mesh loads)

within-limit : (long : Bool) (why : Refusal) (read : Result MeshView Fault) (mesh : MeshView) → ((go : MeshView → Due) → (if long then Refuse why else on_mesh read go) ≡ go mesh) → (if long then false else is_mesh read) ≡ true
within-limit true why read mesh loads = absurd (same-both _ mesh loads)
within-limit false why read mesh loads = mesh-read read mesh loads

-- a mesh that was loaded is accepted
loaded : (file : Option (List ℕ)) (mesh : MeshView) → ((go : MeshView → Due) → with_mesh file go ≡ go mesh) → accepted file ≡ true
loaded None mesh loads = absurd (same-both _ mesh loads)
loaded (Some text) mesh loads = within-limit (nat_lt mesh_limit (length text)) _ (mesh_text text) mesh loads

-- the mesh, and once it is accepted the script
pub both_opened : (files : Option Files) (name : List ℕ) (mesh : MeshView) (before between now : ℕ) → IfSome files (λ fs. (go : MeshView → Due) → with_mesh (fs name) go ≡ go mesh) → between ≤ before + 1 → now ≤ between + 1 → now ≤ before + most_of_job files name
both_opened None name mesh before between now loads one two = omega (arith, one, two)
both_opened (Some files) name mesh before between now loads one two =
    rw (loaded (files name) mesh loads) (omega (arith, one, two))

job-due : (mesh_file script_file : Option (List ℕ)) (mesh : MeshView) (result : Result JobView Early) → ((go : MeshView → Due) → with_mesh mesh_file go ≡ go mesh) → Loads (λ go. with_script script_file (λ read. on_script (checked mesh read) go)) result → Loads (with_job mesh_file script_file) result
job-due mesh_file script_file mesh (Ok job) loads next = λ go. loads (λ m. with_script script_file (λ read. on_script (checked m read) go)) ∙ next go
job-due mesh_file script_file mesh (Err early.Memory) loads next = tt
job-due mesh_file script_file mesh (Err early.ReadFault) loads next = tt
job-due mesh_file script_file mesh (Err (early.Refused why)) loads next = λ go. loads (λ m. with_script script_file (λ read. on_script (checked m read) go)) ∙ next go

-- what is due for a mesh that was loaded and a script, by what is due for the script on it
pub job-told : (told later : Option Files) (name script : List ℕ) (mesh : MeshView) (result : Result JobView Early) → later ≡ told → IfSome told (λ fs. (go : MeshView → Due) → with_mesh (fs name) go ≡ go mesh)
    → IfSome later (λ fs. Loads (λ go. with_script (fs script) (λ read. on_script (checked mesh read) go)) result) → IfSome told (λ fs. Loads (with_job (fs name) (fs script)) result)
job-told None later name script mesh result same loads next = tt
job-told (Some fs) later name script mesh result same loads next =
    job-due (fs name) (fs script) mesh result loads (subst (λ l. IfSome l (λ f. Loads (λ go. with_script (f script) (λ read. on_script (checked mesh read) go)) result)) same next)

-- ---- a file that is too long

same-refusal : (a b : Refusal) → Refuse a ≡ Refuse b → a ≡ b
same-refusal a b e = cc

past-due : (due : Due) (outcome : Result (Vec ℕ Global) Early) (files : Files) (rest : Option (List ℕ)) (why : Refusal) → Settles due outcome → IfRefused outcome (λ w. status_of_refusal w ≡ TooLong → IsReadPast (limit_of w) files rest) → due ≡ Refuse why → status_of outcome ≡ TooLong → IsReadPast (limit_of why) files rest
past-due due (Ok text) files rest why settles past is long = absurd (done-not long)
  where
    done-not : Done ≡ TooLong → ⊥
    done-not e = cc
past-due due (Err early.Memory) files rest why settles past is long = absurd (memory-not long)
  where
    memory-not : Memory ≡ TooLong → ⊥
    memory-not e = cc
past-due due (Err early.ReadFault) files rest why settles past is long = absurd (fault-not long)
  where
    fault-not : ReadFault ≡ TooLong → ⊥
    fault-not e = cc
past-due due (Err (early.Refused w)) files rest why settles past is long =
    subst (λ r. IsReadPast (limit_of r) files rest) (same-refusal w why (sym settles ∙ is)) (past long)

told-as : (status : Status) (outcome : Result (Vec ℕ Global) Early) → (status ≡ WriteFault) ⊎ ((status ≡ Memory) ⊎ (status ≡ status_of outcome)) → status ≡ TooLong → status_of outcome ≡ TooLong
told-as status outcome (inl is) long = absurd (write-not (sym is ∙ long))
  where
    write-not : WriteFault ≡ TooLong → ⊥
    write-not e = cc
told-as status outcome (inr (inl is)) long = absurd (memory-not (sym is ∙ long))
  where
    memory-not : Memory ≡ TooLong → ⊥
    memory-not e = cc
told-as status outcome (inr (inr is)) long = sym is ∙ long

-- where a file that is too long is told, one byte past its limit was read
pub told-past-due : (told : Option Files) (due_at : Files → Due) (outcome : Result (Vec ℕ Global) Early) (status : Status) (rest : Option (List ℕ)) → IfSome told (λ files. Settles (due_at files) outcome)
    → IfRefused outcome (λ why. status_of_refusal why ≡ TooLong → IfSome told (λ files. IsReadPast (limit_of why) files rest))
    → (status ≡ WriteFault) ⊎ ((status ≡ Memory) ⊎ (status ≡ status_of outcome))
    → ReadsPast told due_at status rest
told-past-due None due_at outcome status rest settles past told = tt
told-past-due (Some files) due_at outcome status rest settles past told =
    λ why is long. past-due (due_at files) outcome files rest why settles past is (told-as status outcome told long)
