-- Proofs of the goals of `batches_are_typed` (`laws`).
use Rattle.scan_select.proofs.TypedBatches.{batches_are_typed as proved}
use Rattle.scan_select.proofs.laws.batches_are_typed.Goals as goal

pub returns : goal.returns
returns c = proved
