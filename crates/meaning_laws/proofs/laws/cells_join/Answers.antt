-- Proofs of the goals of `cells_join` (`laws`).
use Rattle.meaning_laws.proofs.Cells.{join_cells-comm, join_cells-assoc, join_cells_same}
use Rattle.meaning_laws.proofs.laws.cells_join.Goals as goal

pub returns : goal.returns
returns c = record { commutes = join_cells-comm; associates = join_cells-assoc; repeats = join_cells_same }
