-- The job that a demo plays.
use Rattle.std.specs.Prelude.{ℕ, ◌*◌, ◌/◌, ℤ, pos, neg_ℤ, ◌+ℤ◌, ◌-ℤ◌, List, [], ◌∷◌, replicate}
use Rattle.mesh_base.specs.Place.{Place, Area}
use Rattle.mesh_base.specs.declared.edit.Kernel.TheVariants as kernel
use Rattle.run_script.specs.declared.script.Plan.{Plan}
use Rattle.run_script.specs.declared.script.Item.{Item}
use Rattle.run_script.specs.declared.script.Item.TheVariants as item
use Rattle.run_script.specs.Scripts.{ScriptView}
use Rattle.run_script.specs.Jobs.{JobView, job_of}
use Rattle.sample_meshes.specs.Block.{block}

-- how many steps there are, and how many sessions
abbrev pub demo_steps : ℕ
demo_steps = 8

abbrev pub demo_sessions : ℕ
demo_sessions = 4

-- the box between two corners
abbrev pub between : Place → Place → Area
between lo hi = record { lo = lo; hi = hi }

-- the length of the block's edges, and the place of the layer of points in the middle
abbrev pub edge : ℕ → ℤ
edge n = pos (16 * n)

abbrev pub middle : ℕ → ℤ
middle n = pos (16 * (n / 2))

-- the first is around the whole block, the second around its half of low x, the third around the point in the middle
abbrev pub whole_box : ℕ → Area
whole_box n = between (neg_ℤ (pos 8), neg_ℤ (pos 8), neg_ℤ (pos 8)) (edge n +ℤ pos 8, edge n +ℤ pos 8, edge n +ℤ pos 8)

abbrev pub half_box : ℕ → Area
half_box n = between (neg_ℤ (pos 8), neg_ℤ (pos 8), neg_ℤ (pos 8)) (middle n +ℤ pos 8, edge n +ℤ pos 8, edge n +ℤ pos 8)

abbrev pub middle_box : ℕ → Area
middle_box n = between (middle n -ℤ pos 8, middle n -ℤ pos 8, middle n -ℤ pos 8)
    (middle n +ℤ pos 8, middle n +ℤ pos 8, middle n +ℤ pos 8)

abbrev pub demo_boxes : ℕ → List Area
demo_boxes n = whole_box n ∷ half_box n ∷ middle_box n ∷ []

-- each step shakes all points
abbrev pub demo_plan : ℕ → Plan
demo_plan seed = record { edits = []; kernel = kernel.Shake seed 1 }

-- each session waits for the last step and asks the three boxes
abbrev pub demo_items : ℕ → List Item
demo_items n = item.Wait 0 demo_steps ∷ item.Ask (whole_box n) ∷ item.Ask (half_box n) ∷ item.Ask (middle_box n) ∷ []

abbrev pub demo_script : ℕ → ℕ → ScriptView
demo_script n seed = record {
  version = 1;
  plans = replicate demo_steps (demo_plan seed);
  sessions = replicate demo_sessions (demo_items n);
}

-- the block of n cubes a side with this script
abbrev pub demo_job : ℕ → ℕ → JobView
demo_job n seed = job_of (block n) (demo_script n seed)
