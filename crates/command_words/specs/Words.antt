-- The command that the words of a command line spell.
use Rattle.std.specs.Prelude.{ℕ, ◌^◌, nat_le, if◌then◌else◌, List, [], ◌∷◌, Option, Some, None, ℤ, pos, neg_ℤ, codes}
use Rattle.std.specs.Option.{option_map}
use Rattle.std.specs.Result.{result_ok}
use Rattle.std.specs.Str.{bytes_eq}
use Rattle.oct_text.specs.Numbers.{signed_of, count_of}
use Rattle.mesh_base.specs.Place.{Place, Area, is_area}
use Rattle.cell_box.specs.declared.how.How.{How}
use Rattle.cell_box.specs.declared.how.How.TheVariants.{Whole, Touching}
use Rattle.command_words.specs.declared.words.Command.{Command}
use Rattle.command_words.specs.declared.words.Command.TheVariants as commands
use Rattle.command_words.specs.declared.words.Played.{Played}
use Rattle.command_words.specs.declared.words.Played.TheVariants as played
use Rattle.sample_meshes.specs.Block.{most_side}
use Rattle.command_words.specs.Hops.{most_hops}

-- the coordinate that a word spells: a signed number from -2^30 to 2^30
abbrev pub bound_of : List ℕ → Option ℤ
bound_of word = result_ok (signed_of word (neg_ℤ (pos (2 ^ 30))) (pos (2 ^ 30)))

-- the corner of three coordinates, if each is spelled well
abbrev pub corner_from : Option ℤ → Option ℤ → Option ℤ → Option Place
corner_from (Some x) (Some y) (Some z) = Some (x, y, z)
corner_from (Some x) (Some y) None = None
corner_from (Some x) None z = None
corner_from None y z = None

abbrev pub corner_of : List ℕ → List ℕ → List ℕ → Option Place
corner_of x y z = corner_from (bound_of x) (bound_of y) (bound_of z)

-- the box between two corners, if there is one
abbrev pub area_from : Option Place → Option Place → Option Area
area_from (Some lo) (Some hi) = if is_area lo hi then Some (record { lo = lo; hi = hi }) else None
area_from (Some lo) None = None
area_from None hi = None

-- a command on a mesh and a box, by the words MESH x0 y0 z0 x1 y1 z1
abbrev pub query_of : (List ℕ → Area → Command (List ℕ)) → List (List ℕ) → Option (Command (List ℕ))
query_of make (mesh ∷ x0 ∷ y0 ∷ z0 ∷ x1 ∷ y1 ∷ z1 ∷ []) = option_map (make mesh)
    (area_from (corner_of x0 y0 z0) (corner_of x1 y1 z1))
query_of make _ = None

-- which cells a word asks for: those whole in the answer, or those that it touches
unfoldable pub how_of : List ℕ → Option How
how_of word = if bytes_eq word (codes "all") then Some Whole else if bytes_eq word (codes "some") then Some Touching
    else None

abbrev pub cells_from : List ℕ → Option Area → Option How → Option (Command (List ℕ))
cells_from mesh (Some area) (Some how) = Some (commands.Cells mesh area how)
cells_from mesh (Some area) None = None
cells_from mesh None how = None

-- the words behind the mesh of `cells`: x0 y0 z0 x1 y1 z1, and `all` or `some`
abbrev pub cells_on : List ℕ → List (List ℕ) → Option (Command (List ℕ))
cells_on mesh (x0 ∷ y0 ∷ z0 ∷ x1 ∷ y1 ∷ z1 ∷ how ∷ []) = cells_from mesh
    (area_from (corner_of x0 y0 z0) (corner_of x1 y1 z1)) (how_of how)
cells_on mesh _ = None

-- the words behind `cells`: MESH, and those
abbrev pub cells_of : List (List ℕ) → Option (Command (List ℕ))
cells_of [] = None
cells_of (mesh ∷ rest) = cells_on mesh rest

abbrev pub rings_from : List ℕ → Option Area → Option ℕ → Option (Command (List ℕ))
rings_from mesh (Some area) (Some most) = Some (commands.Rings mesh area most)
rings_from mesh (Some area) None = None
rings_from mesh None most = None

-- the words behind the mesh of `rings`: x0 y0 z0 x1 y1 z1 H, H a count of at most 1,000
abbrev pub rings_on : List ℕ → List (List ℕ) → Option (Command (List ℕ))
rings_on mesh (x0 ∷ y0 ∷ z0 ∷ x1 ∷ y1 ∷ z1 ∷ h ∷ []) = rings_from mesh
    (area_from (corner_of x0 y0 z0) (corner_of x1 y1 z1)) (result_ok (count_of h most_hops))
rings_on mesh _ = None

-- the words behind `rings`: MESH, and those
abbrev pub rings_of : List (List ℕ) → Option (Command (List ℕ))
rings_of [] = None
rings_of (mesh ∷ rest) = rings_on mesh rest

-- the word behind `surface`: MESH
abbrev pub surface_of : List (List ℕ) → Option (Command (List ℕ))
surface_of (mesh ∷ []) = Some (commands.Surface mesh)
surface_of _ = None

-- a number from 1 up, as the cubes along a side of a block
abbrev pub side_from : Option ℕ → Option ℕ
side_from (Some n) = if nat_le 1 n then Some n else None
side_from None = None

abbrev pub side_of : List ℕ → ℕ → Option ℕ
side_of word most = side_from (result_ok (count_of word most))

-- the word behind `gen`: N, a count from 1 to 87
abbrev pub gen_of : List (List ℕ) → Option (Command (List ℕ))
gen_of (n ∷ []) = option_map commands.Gen (side_of n most_side)
gen_of _ = None

-- the greatest number of a step
abbrev pub most_step : ℕ
most_step = 10000

-- the words behind `step`: MESH SCRIPT K, K a count of at most 10,000
abbrev pub step_command : List (List ℕ) → Option (Command (List ℕ))
step_command (mesh ∷ script ∷ k ∷ []) = option_map (commands.Step mesh script) (result_ok (count_of k most_step))
step_command _ = None

-- the word behind `upgrade`: SCRIPT
abbrev pub upgrade_of : List (List ℕ) → Option (Command (List ℕ))
upgrade_of (script ∷ []) = Some (commands.Upgrade script)
upgrade_of _ = None

-- a command by its name and the words behind it
abbrev pub named : List ℕ → List (List ℕ) → Option (Command (List ℕ))
named name rest =
    if bytes_eq name (codes "scan") then query_of commands.Scan rest
    else if bytes_eq name (codes "surface") then surface_of rest
    else if bytes_eq name (codes "gen") then gen_of rest
    else if bytes_eq name (codes "step") then step_command rest
    else if bytes_eq name (codes "upgrade") then upgrade_of rest
    else if bytes_eq name (codes "box") then query_of commands.Box rest
    else if bytes_eq name (codes "cells") then cells_of rest
    else if bytes_eq name (codes "rings") then rings_of rest
    else None

-- the command of the words, if they have a form
unfoldable pub command_of : List (List ℕ) → Option (Command (List ℕ))
command_of [] = None
command_of (name ∷ rest) = named name rest

-- the same command with other names of its files
abbrev pub named_as : {M N : Type 0} → (M → N) → Command M → Command N
named_as f (commands.Scan mesh area) = commands.Scan (f mesh) area
named_as f (commands.Surface mesh) = commands.Surface (f mesh)
named_as f (commands.Gen side) = commands.Gen side
named_as f (commands.Step mesh script step) = commands.Step (f mesh) (f script) step
named_as f (commands.Upgrade script) = commands.Upgrade (f script)
named_as f (commands.Box mesh area) = commands.Box (f mesh) area
named_as f (commands.Cells mesh area how) = commands.Cells (f mesh) area how
named_as f (commands.Rings mesh area most) = commands.Rings (f mesh) area most

-- ---- the commands that play a job

-- the words behind `run`: MESH SCRIPT
abbrev pub run_of : List (List ℕ) → Option (Played (List ℕ))
run_of (mesh ∷ script ∷ []) = Some (played.Run mesh script)
run_of _ = None

-- the most cubes along a side of the block of a demo, and the greatest seed
abbrev pub most_demo_side : ℕ
most_demo_side = 40

abbrev pub most_seed : ℕ
most_seed = 65535

abbrev pub demo_from : Option ℕ → Option ℕ → Option (Played (List ℕ))
demo_from (Some side) (Some seed) = Some (played.Demo side seed)
demo_from (Some side) None = None
demo_from None seed = None

-- the words behind `demo`: N SEED, a count from 1 to 40 and a count of at most 65,535
abbrev pub demo_of : List (List ℕ) → Option (Played (List ℕ))
demo_of (n ∷ seed ∷ []) = demo_from (side_of n most_demo_side) (result_ok (count_of seed most_seed))
demo_of _ = None

-- the words behind `watch`: MESH SCRIPT
abbrev pub watch_of : List (List ℕ) → Option (Played (List ℕ))
watch_of (mesh ∷ script ∷ []) = Some (played.Watch mesh script)
watch_of _ = None

abbrev pub played_named : List ℕ → List (List ℕ) → Option (Played (List ℕ))
played_named name rest =
    if bytes_eq name (codes "run") then run_of rest
    else if bytes_eq name (codes "demo") then demo_of rest
    else if bytes_eq name (codes "watch") then watch_of rest
    else None

-- what the words ask to be played, if they do
unfoldable pub played_of : List (List ℕ) → Option (Played (List ℕ))
played_of [] = None
played_of (name ∷ rest) = played_named name rest

-- the same with other names of its files
abbrev pub played_as : {M N : Type 0} → (M → N) → Played M → Played N
played_as f (played.Run mesh script) = played.Run (f mesh) (f script)
played_as f (played.Demo side seed) = played.Demo side seed
played_as f (played.Watch mesh script) = played.Watch (f mesh) (f script)
