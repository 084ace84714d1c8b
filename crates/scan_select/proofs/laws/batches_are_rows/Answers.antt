-- Proofs of the goals of `batches_are_rows` (`laws`).
use Rattle.scan_select.proofs.LawProofs.{batches_are_rows as proved}
use Rattle.scan_select.proofs.laws.batches_are_rows.Goals as goal

pub returns : goal.returns
returns c = proved
