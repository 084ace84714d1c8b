-- Proofs of the goals of `field_at` (`reading`).
use Rattle.std.proofs.Common.{◌∙◌}
use Rattle.csv.specs.Records.{fields_of}
use Rattle.loader.proofs.Fields.{field_there}
use Rattle.init.proofs.reading.field_at.Goals as goal

pub returns : goal.returns
returns c = c.get.ensures.value ∙ field_there (fields_of c.args.row.now) c.args.index
