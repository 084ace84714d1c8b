-- Proofs of the goals of `rows_are_counted` (`laws`).
use Rattle.fragment_file.proofs.RowLaws.{rows_are_counted as proved}
use Rattle.fragment_file.proofs.laws.rows_are_counted.Goals as goal

pub returns : goal.returns
returns c = proved
