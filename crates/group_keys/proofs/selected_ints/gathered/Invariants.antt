-- Invariants of `gathered` (`selected_ints`).
use Rattle.std.proofs.Common.{◌≡◌, ℕ, map, take, get_or, pos}
use Rattle.group_keys.proofs.selected_ints.gathered.Given as goal

abbrev pub invariant-loop-position : goal.invariant-loop-position
invariant-loop-position l = l.ints.items ≡ map (λ (p : ℕ). get_or l.cells p (pos 0)) (take l.position-index l.positions)
