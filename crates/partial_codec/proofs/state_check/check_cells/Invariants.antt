-- Loop invariants of `check_cells` (`state_check`).
use Rattle.std.proofs.Common.{◌≡◌, drop}
use Rattle.meaning.specs.Cut.{first_row}
use Rattle.answer_layouts.specs.Layouts.{sums_in}
use Rattle.partial_codec.specs.Holding.{cells_held_by}
use Rattle.partial_codec.proofs.state_check.check_cells.Given as goal

abbrev pub invariant-loop-k : goal.invariant-loop-k
invariant-loop-k l = record { first : l.first ≡ first_row l.job.cut l.k; rest : cells_held_by l.job 0 l.cells (sums_in l.findings) ≡ cells_held_by l.job l.k (drop l.k l.cells) (drop l.k (sums_in l.findings)) }
