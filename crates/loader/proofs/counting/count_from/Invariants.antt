-- Loop invariants of `count_from` (`counting`).
use Rattle.std.proofs.Common.{◌≡◌, ℕ, length}
use Rattle.loader.specs.Counting.{GoesOn}
use Rattle.loader.proofs.counting.count_from.Given as goal

abbrev pub invariant-loop : goal.invariant-loop
invariant-loop g l = (length l.block ≡ length l.fn.block) × ((all : ℕ) → GoesOn g.R.Read.remaining l.fn.reader all l.fn.start → GoesOn g.R.Read.remaining l.reader all l.counted)
