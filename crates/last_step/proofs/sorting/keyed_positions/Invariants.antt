-- Invariants of `keyed_positions` (`sorting`).
use Rattle.std.proofs.Common.{◌≡◌, map, take, All}
use Rattle.last_step.specs.Best.{IsKeyed}
use Rattle.last_step.proofs.sorting.keyed_positions.Given as goal

abbrev pub invariant-loop-k : goal.invariant-loop-k
invariant-loop-k l = record {
  positions : map (λ k. k.position) l.all.items ≡ take l.k l.kept.list;
  keys : All (IsKeyed l.order l.items) l.all.items;
}
