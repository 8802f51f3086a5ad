-- The rings round the answer of a box, and their text.
use Rattle.std.specs.Prelude.{◌≡◌, ℕ, ◌+◌, List, ◌++◌, length, codes, flat_map}
use Rattle.std.specs.List.{range_with_len}
use Rattle.std.specs.Fmt.{decimal}
use Rattle.mesh_base.specs.Place.{Area}
use Rattle.mesh_base.specs.Mesh.{MeshView}
use Rattle.mesh_base.specs.Query.{route, answer}
use Rattle.mesh_base.specs.declared.answer.Route.{Route}
use Rattle.hop_rings.specs.declared.ring.Ring.{Ring}
use Rattle.hop_rings.specs.Rings.{AreRings, ring_at}
use Rattle.octopus.specs.Lines.{line, list_line, route_word}

-- which ring it is, and how many vertices it has
abbrev pub ring_words : ℕ → Ring → List ℕ
ring_words n ring = codes "ring " ++ decimal n ++ (codes " count " ++ decimal (length ring.vertices))

-- the line of a ring, its vertices, and their sources
abbrev pub ring_text : ℕ → Ring → List ℕ
ring_text n ring = line (ring_words n ring) ++ list_line ring.vertices ++ list_line ring.sources

abbrev pub ring_part : List Ring → ℕ → List ℕ
ring_part rings n = ring_text n (ring_at rings n)

-- the first n rings
abbrev pub rings_part : List Ring → ℕ → List ℕ
rings_part rings n = flat_map (ring_part rings) (range_with_len 0 n)

-- how the box is answered, and the rings
abbrev pub rings_text : Route → List Ring → List ℕ
rings_text route rings = line (codes "route " ++ route_word route) ++ rings_part rings (length rings)

-- The text is that of the rings 0 to `most` round the answer of the box.
pub record TellsRings (mesh : MeshView) (area : Area) (most : ℕ) (text : List ℕ) : Type 0 where
  pub rings : List Ring
  pub count : length rings ≡ most + 1
  pub are : AreRings mesh (answer mesh area) rings
  pub told : text ≡ rings_text (route mesh area) rings
