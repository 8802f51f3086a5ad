use Rattle.std.specs.Prelude.{map}
use Rattle.std.specs.String.{string_bytes}
use Rattle.octopus.specs.Due.{due_with_threads}
use Rattle.octopus.proofs.Headline.{headline-from, watched-from}
use Rattle.octopus.proofs.threads.octopus.Goals as goal

pub returns-clause-headline : goal.returns-clause-headline
returns-clause-headline g c =
    headline-from (g.F.Folder.files c.args.folder.now) (λ files. due_with_threads (map string_bytes c.args.words.now) files) c.do_all.result (g.K.Sink.written c.args.sink.now) (g.K.Sink.written c.do_all.new.sink) c.do_all.ensures.told

pub returns-clause-watched : goal.returns-clause-watched
returns-clause-watched g c =
    watched-from (g.F.Folder.files c.args.folder.now) (λ files. due_with_threads (map string_bytes c.args.words.now) files) c.do_all.result (g.K.Sink.written c.args.sink.now) (g.K.Sink.written c.do_all.new.sink) c.do_all.ensures.told
