-- Proofs of the goals of `lend_group` (`view`).
use Rattle.fragment_file.proofs.view.lend_group.Goals as goal

pub returns-clause-bytes : goal.returns-clause-bytes
returns-clause-bytes c = λ i. (c.type_inv.bytes i).fits
