-- Loop invariants of `count_each` (`blocks`).
use Rattle.std.proofs.Common.{◌≡◌, take}
use Rattle.loader.specs.Counting.{state_at, state_behind}
use Rattle.loader.proofs.EndedRecords.{HasEnded}
use Rattle.loader.proofs.blocks.count_each.Given as goal

abbrev pub invariant-loop-byte : goal.invariant-loop-byte
invariant-loop-byte l = HasEnded (state_at l.fn.state) l.block l.byte-index l.records × (state_at l.here ≡ state_behind (state_at l.fn.state) (take l.byte-index l.block))
