-- Loop invariants of `recode` (`dictionary::of_cells`).
use Rattle.std.proofs.Common.{◌≡◌, ◌++◌, map, take, drop, get_or}
use Rattle.encodings.proofs.dictionary.of_cells.recode.Given as goal

abbrev pub invariant-loop-number : goal.invariant-loop-number
invariant-loop-number l =
    let rows = l.initial.number-items in
    l.number-items ≡ map (λ number. get_or l.codes number 0) (take l.number-index rows) ++ drop l.number-index rows
