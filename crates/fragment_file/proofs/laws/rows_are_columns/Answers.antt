-- Proofs of the goals of `rows_are_columns` (`laws`).
use Rattle.fragment_file.proofs.RowLaws.{rows_are_columns as proved}
use Rattle.fragment_file.proofs.laws.rows_are_columns.Goals as goal

pub returns : goal.returns
returns c = proved
