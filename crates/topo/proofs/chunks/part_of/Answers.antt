use Rattle.std.proofs.Common.{◌*◌, arith}
use Rattle.topo.proofs.ChunkLaws.{part-chunk}
use Rattle.topo.proofs.chunks.part_of.Goals as goal
use Rattle.topo.proofs.chunks.part_of.Goals.{then-rest-lt-CHUNK, else-rest-lt-CHUNK}

pub returns : goal.returns
returns g c =
    let xs = c.args.list.now in
    let k = c.args.k in
    elim c.if-rest-lt-CHUNK.branch [
      | then-rest-lt-CHUNK w ↦ part-chunk xs k (k * 4096) _ (omega arith) (omega (arith, w.end-is, w.if-rest-lt-CHUNK))
      | else-rest-lt-CHUNK w ↦ part-chunk xs k (k * 4096) _ (omega arith) (omega (arith, w.end-is, w.if-rest-lt-CHUNK))
    ]
