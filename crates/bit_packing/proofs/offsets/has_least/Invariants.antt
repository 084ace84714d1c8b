-- Loop invariants of `has_least` (`offsets`).
use Rattle.std.proofs.Common.{◌≡◌, take, negsuc}
use Rattle.std.specs.List.{list_any}
use Rattle.std.specs.Ordering.{int_eq}
use Rattle.bit_packing.proofs.offsets.has_least.Given as goal

abbrev pub invariant-loop-n : goal.invariant-loop-n
invariant-loop-n l = l.found ≡ list_any (λ n. int_eq n (negsuc 9223372036854775807)) (take l.n-index l.lanes)
