-- The summary of a demo.
use Rattle.std.specs.Prelude.{ℕ, List, ◌++◌, length, codes, flat_map, filter}
use Rattle.std.specs.List.{range_with_len}
use Rattle.std.specs.Fmt.{decimal}
use Rattle.mesh_base.specs.Place.{Area}
use Rattle.mesh_base.specs.Mesh.{MeshView}
use Rattle.mesh_base.specs.Query.{route, answer}
use Rattle.mesh_base.specs.declared.answer.Answer.{Answer}
use Rattle.run_script.specs.Jobs.{step_at}
use Rattle.step_registry.specs.Lines.{of_session}
use Rattle.sample_meshes.specs.Block.{block}
use Rattle.octopus.specs.Lines.{line, route_word}
use Rattle.demo_job.specs.Demo.{demo_steps, demo_sessions, demo_boxes, demo_job}

-- how the answer of a box on a mesh is found, and how many vertices it has
abbrev pub box_words : MeshView → Area → List ℕ
box_words mesh area = codes " " ++ route_word (route mesh area) ++ (codes " " ++ decimal (length (answer mesh area)))

-- the line of a session whose boxes are asked about this mesh
abbrev pub demo_line : MeshView → List Area → ℕ → List ℕ
demo_line mesh areas s = line (codes "session " ++ decimal s ++ flat_map (box_words mesh) areas)

-- how many points and cells the block has
abbrev pub size_words : MeshView → List ℕ
size_words mesh = codes "points " ++ decimal (length mesh.points) ++ (codes " cells " ++ decimal (length mesh.cells))

abbrev pub demo_head : MeshView → List ℕ
demo_head mesh = line (codes "octopus demo") ++ line (size_words mesh ++ codes " steps 8 sessions 4")

-- the summary: each session asks its boxes about the last step
unfoldable pub demo_text : ℕ → ℕ → List ℕ
demo_text n seed =
    demo_head (block n)
    ++ flat_map (demo_line (step_at (demo_job n seed) demo_steps) (demo_boxes n)) (range_with_len 0 demo_sessions)
    ++ line (codes "end")

-- ---- the same by a list of all answers, which the code goes through once for each session

abbrev pub answer_words : Answer → List ℕ
answer_words a = codes " " ++ route_word a.route ++ (codes " " ++ decimal (length a.vertices))

abbrev pub line_by : List Answer → ℕ → List ℕ
line_by answers s = line (codes "session " ++ decimal s ++ flat_map answer_words (filter (of_session s) answers))

abbrev pub lines_by : List Answer → ℕ → List ℕ
lines_by answers n = flat_map (line_by answers) (range_with_len 0 n)

abbrev pub summary_by : MeshView → List Answer → List ℕ
summary_by mesh answers = demo_head mesh ++ lines_by answers demo_sessions ++ line (codes "end")
