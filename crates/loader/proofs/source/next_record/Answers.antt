-- Proofs of the goals of `next_record` (`source`).
use Rattle.csv.specs.Records.{fields_of}
use Rattle.loader.proofs.Taking.{takes}
use Rattle.loader.proofs.source.next_record.Goals as goal

pub returns-in-Ok-clause-taken : goal.returns-in-Ok-clause-taken
returns-in-Ok-clause-taken g c rest left =
    let r = c.in-Ok.ensures in
    takes g.R.Read.remaining c.args.reader.now c.read_byte_record.new.self rest c.in-Ok.found (fields_of c.read_byte_record.new.row) left
    (r.reads left.untrimmed left.ready) r.flexible r.reads_on
