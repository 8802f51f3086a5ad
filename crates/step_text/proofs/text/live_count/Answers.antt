use Rattle.std.proofs.Common.{◌*◌, ap, length, arith}
use Rattle.std.proofs.lemmas.List.{length-take}
use Rattle.std.specs.Prelude.{drop}
use Rattle.step_text.proofs.ChunkLaws.{live-next}
use Rattle.step_text.proofs.text.live_count.Goals as goal

pub loop-k-preserved : goal.loop-k-preserved
loop-k-preserved c =
    let cells = c.args.shape.now.cells in
    let k = c.loop-k.k in
    record {
      so_far = live-next cells c.cell_chunk.result.now k c.loop-k.count c.count_live-count.result c.cell_chunk.ensures c.loop-k.invariant.so_far c.count_live-count.ensures.count;
      few = omega (arith, c.loop-k.invariant.few, c.count_live-count.ensures.most, ap length c.cell_chunk.ensures, length-take 4096 (drop (4096 * k) cells));
    }
