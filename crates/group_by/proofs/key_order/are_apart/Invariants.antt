-- Invariants of `are_apart` (`key_order`).
use Rattle.std.proofs.Common.{◌≡◌, ◌+◌, ◌<◌, ℕ, true, length, get_or, []}
use Rattle.std.specs.Ordering.{is_lt}
use Rattle.meaning.specs.Order.{row_cmp}
use Rattle.group_by.proofs.key_order.are_apart.Given as goal

-- the keys before the k-th are less than the next
abbrev pub invariant-loop-k : goal.invariant-loop-k
invariant-loop-k l = (j : ℕ) (d : ℕ) → j + 1 < l.k → j + 1 < length l.order → is_lt (row_cmp (get_or l.keys (get_or l.order j d) []) (get_or l.keys (get_or l.order (j + 1) d) [])) ≡ true
