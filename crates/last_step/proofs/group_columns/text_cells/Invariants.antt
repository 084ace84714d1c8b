-- Invariants of `text_cells` (`group_columns`).
use Rattle.std.proofs.Common.{◌≡◌, map, take}
use Rattle.meaning.specs.Order.{bytes, value_in}
use Rattle.last_step.proofs.group_columns.text_cells.Given as goal

abbrev pub invariant-loop-value : goal.invariant-loop-value
invariant-loop-value l = map (λ t. t.now) l.cells.items ≡ map (λ v. bytes (value_in v)) (take l.value-index l.values)
