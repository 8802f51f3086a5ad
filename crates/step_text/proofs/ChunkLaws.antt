-- the text of cells and how many are live, one chunk more
use Rattle.std.proofs.Common.{◌≡◌, ℕ, ◌+◌, ◌*◌, List, ◌++◌, take, length, Option, sym, ap, ◌∙◌, arith, append_assoc}
use Rattle.std.proofs.Math.Seq.{take-add}
use Rattle.mesh_base.specs.Mesh.{Corners, live}
use Rattle.topo.specs.Chunks.{chunk_of}
use Rattle.vtk_legacy.specs.Written.{cells_spelling}
use Rattle.vtk_legacy.proofs.WrittenLists.{chunks_text, chunks_live}

front-next : (cells : List (Option Corners)) (k : ℕ) → take (4096 * (k + 1)) cells ≡ take (4096 * k) cells ++ chunk_of cells k
front-next cells k =
    let at : 4096 * (k + 1) ≡ 4096 * k + 4096 = omega arith in
    ap (λ n. take n cells) at ∙ take-add (4096 * k) 4096 cells

pub text-next : (cells chunk : List (Option Corners)) (k : ℕ) (old mid new : List ℕ) → chunk ≡ chunk_of cells k → mid ≡ old ++ cells_spelling (take (4096 * k) cells) → new ≡ mid ++ cells_spelling chunk
    → new ≡ old ++ cells_spelling (take (4096 * (k + 1)) cells)
text-next cells chunk k old mid new is m n =
    let front = take (4096 * k) cells in
    let both : cells_spelling front ++ cells_spelling chunk ≡ cells_spelling (take (4096 * (k + 1)) cells)
    = ap (λ l. cells_spelling front ++ cells_spelling l) is ∙ sym (chunks_text front (chunk_of cells k)) ∙ ap cells_spelling (sym (front-next cells k)) in
    n ∙ ap (λ l. l ++ cells_spelling chunk) m ∙ append_assoc old (cells_spelling front) (cells_spelling chunk) ∙ ap (λ l. old ++ l) both

pub live-next : (cells chunk : List (Option Corners)) (k count more : ℕ) → chunk ≡ chunk_of cells k → count ≡ length (live (take (4096 * k) cells)) → more ≡ length (live chunk)
    → count + more ≡ length (live (take (4096 * (k + 1)) cells))
live-next cells chunk k count more is c m =
    let both = chunks_live (take (4096 * k) cells) (chunk_of cells k) in
    let front = ap (λ l. length (live l)) (front-next cells k) in
    let last = m ∙ ap (λ l. length (live l)) is in
    omega (arith, c, last, front, both)
