-- Proofs of the goals of `Rows::has_more` (`table`).
use Rattle.csv.specs.Records.{fields_of}
use Rattle.loader.proofs.Steps.{more_come}
use Rattle.loader.proofs.table.Rows.has_more.Goals as goal

pub returns-clause-found : goal.returns-clause-found
returns-clause-found g c = more_come g.R.Read.remaining c.args.self.now.reader c.next_record.new.reader (fields_of c.next_record.new.row) c.next_record.result c.next_record.ensures.taken
