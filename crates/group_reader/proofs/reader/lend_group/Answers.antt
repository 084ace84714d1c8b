-- Proofs of the goals of `lend_group` (`reader`).
use Rattle.group_reader.proofs.reader.lend_group.Goals as goal

pub returns-clause-bytes : goal.returns-clause-bytes
returns-clause-bytes c = λ i. (c.type_inv.bytes i).fits
