-- where the cells of a topology stand, and those of a chunk
use Rattle.std.specs.Prelude.{ℕ, ◌+◌, ◌*◌, ◌≤◌, List, length, Option, vec_len, vec_capacity}
use Rattle.std.specs.Arc.{arc_value}
use Rattle.mesh_base.specs.Mesh.{Corners}
use Rattle.topo.specs.Chunks.{chunk_of}
use Rattle.topo.specs.declared.list.Cells.{Cells}
use Rattle.topo.specs.declared.list.Cells.TheVariants as cells
use Rattle.topo.specs.declared.cells.ChunkCells.{ChunkCells}
use Rattle.topo.specs.declared.cells.ChunkCells.TheVariants as chunk
use Rattle.mesh_base.specs.Limits.{most_points}

-- the cells: those of the mesh, or those of the list
abbrev pub listed : Cells → List (Option Corners)
listed (cells.Shared mesh) = (arc_value mesh).cells
listed (cells.Own list) = list.items

-- they are a list of their own, with room for so many more
abbrev pub HasRoom : ℕ → Cells → Type 0
HasRoom more (cells.Shared mesh) = ⊥
HasRoom more (cells.Own list) = vec_len list + more ≤ vec_capacity list

-- the cells of a chunk: chunk k of those of the mesh, or those of the list
abbrev pub chunk_cells : ChunkCells → List (Option Corners)
chunk_cells (chunk.Part mesh k) = chunk_of (arc_value mesh).cells k
chunk_cells (chunk.Own list) = list.items

-- the chunk begins within the mesh, or at its end
abbrev pub IsChunk : ChunkCells → Type 0
IsChunk (chunk.Part mesh k) = (k ≤ most_points) × (4096 * k ≤ length (arc_value mesh).cells)
IsChunk (chunk.Own list) = Unit {0}
