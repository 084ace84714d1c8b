-- Proofs of the goals of `GroupReader::open` (`reader`).
use Rattle.std.proofs.Common.{[], refl}
use Rattle.group_reader.proofs.reader.GroupReader.open.Goals as goal

pub returns-in-Ok-clause-opened : goal.returns-in-Ok-clause-opened
returns-in-Ok-clause-opened g c =
    let took = c.in-Ok.ensures.read in record {
      given = took.0;
      left = λ bytes known. took.1.left bytes known;
      hashed = took.1.hashed [] c.new.ensures;
      header = took.2;
      comes = λ all rest. refl;
    }
