-- The answers again, from the watches alone.
use Rattle.std.specs.Prelude.{◌≡◌, ℕ, ◌<◌, ◌⊎◌, List, [], length, slice_index_or, Option, Some, None, All, Contains}
use Rattle.std.specs.List.Sorted.{IsStrictlyIncreasing}
use Rattle.mesh_base.specs.Numbers.{IsListOf}
use Rattle.run_script.specs.Jobs.{JobView}
use Rattle.step_registry.specs.declared.event.Event.{Event}
use Rattle.report.specs.Report.{listed}
use Rattle.box_watch.specs.declared.watch.Watch.{Watch}
use Rattle.box_watch.specs.Watches.{answer_at}

abbrev pub no_watch : Watch
no_watch = record { session = 0; query = 0; step = 0; prior = None; entered = []; left = [] }

abbrev pub watch_at : List Watch → ℕ → Watch
watch_at all i = slice_index_or all i no_watch

-- The ascending list of those that entered, and of those that were there before and didn't leave.
abbrev pub IsAfter : List ℕ → Watch → List ℕ → Type 0
IsAfter before w vs = IsListOf (λ v. Contains w.entered v ⊎ (Contains before v × ¬ Contains w.left v)) vs

-- what a session's box has, by a table of all of them; nothing where there is no box
abbrev pub vertices_at : (ℕ → ℕ → List ℕ) → ℕ → Option ℕ → List ℕ
vertices_at table s None = []
vertices_at table s (Some q) = table s q

-- The table gives each box that is watched what its watch makes of the box before.
abbrev pub Follows : List Watch → (ℕ → ℕ → List ℕ) → Type 0
Follows all table = All (λ w. IsAfter (vertices_at table w.session w.prior) w (table w.session w.query)) all

-- one of the first n watches is of this box
abbrev pub IsWatched : List Watch → ℕ → ℕ → ℕ → Type 0
IsWatched all n s q = (j : ℕ) × (j < n) × ((watch_at all j).session ≡ s) × ((watch_at all j).query ≡ q)

pub record IsWatchList (all : List Watch) : Type 0 where
  pub entered : All (λ w. IsStrictlyIncreasing w.entered) all
  pub left : All (λ w. IsStrictlyIncreasing w.left) all
  -- the box before is that of an earlier watch
  pub earlier : (i q : ℕ) → i < length all → (watch_at all i).prior ≡ Some q
      → IsWatched all i (watch_at all i).session q

-- the vertices that a history's answers give each box
abbrev pub answered : JobView → List Event → ℕ → ℕ → List ℕ
answered job h s q = (answer_at (listed job h s) q).vertices
