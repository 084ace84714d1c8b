-- Loop invariants of `texts_between` (`dictionary::of_cells`).
use Rattle.std.proofs.Common.{◌≡◌, ◌-◌, map, take, drop}
use Rattle.encodings.proofs.dictionary.of_cells.texts_between.Given as goal

abbrev pub invariant-loop-row : goal.invariant-loop-row
invariant-loop-row l = map (λ text. text.now) l.cells.items ≡ take (l.row - l.from) (drop l.from l.texts)
