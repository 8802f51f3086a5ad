use Rattle.step_text.proofs.ChunkLaws.{text-next}
use Rattle.step_text.proofs.text.put_cells.Goals as goal

pub loop-k-preserved : goal.loop-k-preserved
loop-k-preserved c = text-next c.args.shape.now.cells c.cell_chunk.result.now c.loop-k.k c.args.out.now.items c.loop-k.out.items c.write_cells.new.out.items c.cell_chunk.ensures c.loop-k.invariant c.in_ok-write_cells.ensures.ok
