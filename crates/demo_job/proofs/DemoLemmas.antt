-- The job of a demo is a job.
use Rattle.std.proofs.Common.{◌≡◌, ℕ, ◌≤◌, [], refl, ap, ◌∙◌, arith, inl, ◌/◌, replicate}
use Rattle.std.specs.Prelude.{All, Result, Ok, Err}
use Rattle.std.proofs.lemmas.Int.{ints}
use Rattle.std.proofs.lemmas.List.Elements.{All-from_recursion}
use Rattle.mesh_base.specs.Mesh.{MeshView}
use Rattle.mesh_base.specs.Place.{Area, IsPlace, IsArea}
use Rattle.run_script.specs.Faults.{Fault}
use Rattle.run_script.specs.Scripts.{ScriptView, IsEdit, IsItem, IsPlan, IsSession, IsScript, edit_count, ask_count}
use Rattle.run_script.specs.Jobs.{JobView, checked, edits_fault, wait_fault}
use Rattle.sample_meshes.specs.Block.{block}
use Rattle.demo_job.specs.Demo.{demo_steps, demo_sessions, whole_box, half_box, middle_box, demo_plan, demo_items, demo_script, demo_job}

plan-fits : (seed : ℕ) → seed ≤ 65535 → IsPlan (demo_plan seed)
plan-fits seed small = record { edits = All-from_recursion (λ e. IsEdit e.edit) [] tt; kernel = (small, omega arith) }

ask-fits : (area : Area) → IsPlace area.lo → IsPlace area.hi → IsArea area.lo area.hi → IsPlace area.lo × IsPlace area.hi × IsArea area.lo area.hi
ask-fits area lo hi is = (lo, hi, is)

items-fit : (n : ℕ) → n ≤ 87 → All IsItem (demo_items n)
items-fit n small =
    let half : n / 2 ≤ n = omega arith in
    All-from_recursion IsItem (demo_items n) (
      omega arith,
      (
        ask-fits (whole_box n) (omega (arith, ints)) (omega (arith, ints)) (omega (arith, ints)),
        (
          ask-fits (half_box n) (omega (arith, ints)) (omega (arith, ints)) (omega (arith, ints)),
          (ask-fits (middle_box n) (omega (arith, ints)) (omega (arith, ints)) (omega (arith, ints)), tt),
        ),
      ),
    )

session-fits : (n : ℕ) → n ≤ 87 → IsSession 1 (demo_items n)
session-fits n small = record { fit = items-fit n small; closed = tt; version_1 = λ is. refl }

pub script-fits : (n seed : ℕ) → n ≤ 87 → seed ≤ 65535 → IsScript (demo_script n seed)
script-fits n seed small_side small_seed =
    let plan = plan-fits seed small_seed in
    let session = session-fits n small_side in
    let no_edits : edit_count (replicate demo_steps (demo_plan seed)) ≡ 0 = refl in
    let boxes : ask_count (replicate demo_sessions (demo_items n)) ≡ 12 = refl in
    record {
      version = inl refl;
      few_steps = omega arith;
      few_edits = omega arith;
      few_sessions = omega arith;
      few_boxes = omega arith;
      plans = All-from_recursion IsPlan (replicate demo_steps (demo_plan seed)) (plan, (plan, (plan, (plan, (plan, (plan, (plan, (plan, tt))))))));
      sessions = All-from_recursion (IsSession 1) (replicate demo_sessions (demo_items n)) (session, (session, (session, (session, tt))));
    }

pub demo-checked : (n seed : ℕ) → checked (block n) (demo_script n seed) ≡ Ok (demo_job n seed)
unfolding checked edits_fault wait_fault
demo-checked n seed = refl

ok-same : (x y : JobView) (r : Result JobView Fault) → r ≡ Ok x → r ≡ Ok y → x ≡ y
ok-same x y r ex ey = cc

not-both : (x : JobView) (f : Fault) (r : Result JobView Fault) → r ≡ Ok x → r ≡ Err f → ⊥
not-both x f r ex ef = cc

checked-from : (n seed : ℕ) (mesh : MeshView) (script : ScriptView) → mesh ≡ block n → script ≡ demo_script n seed → checked mesh script ≡ Ok (demo_job n seed)
checked-from n seed mesh script em es = ap (λ m. checked m script) em ∙ (ap (checked (block n)) es ∙ demo-checked n seed)

pub job-from : (n seed : ℕ) (mesh : MeshView) (script : ScriptView) (job : JobView) → mesh ≡ block n → script ≡ demo_script n seed → checked mesh script ≡ Ok job → job ≡ demo_job n seed
job-from n seed mesh script job em es e = ok-same job (demo_job n seed) (checked mesh script) e (checked-from n seed mesh script em es)

pub no-fault : (n seed : ℕ) (mesh : MeshView) (script : ScriptView) (f : Fault) → mesh ≡ block n → script ≡ demo_script n seed → checked mesh script ≡ Err f → ⊥
no-fault n seed mesh script f em es e = not-both (demo_job n seed) f (checked mesh script) (checked-from n seed mesh script em es) e
