use Rattle.std.specs.Prelude.{map}
use Rattle.std.specs.String.{string_bytes}
use Rattle.octopus.specs.Due.{due}
use Rattle.octopus.proofs.OpenLaws.{told-past-due}
use Rattle.octopus.proofs.plain.plain.Goals as goal

pub returns-clause-read_past : goal.returns-clause-read_past
returns-clause-read_past g c =
    told-past-due (g.F.Folder.files c.args.folder.now) (λ files. due (map string_bytes c.args.words.now) files) c.prepare-outcome.result c.tell.result (g.F.Folder.rest c.prepare-outcome.new.folder) c.prepare-outcome.ensures.reads.told c.prepare-outcome.ensures.reads.past c.tell.ensures.status
