-- Loop invariants of `are_codes` (`dictionary::check`).
use Rattle.std.proofs.Common.{◌≡◌, take, nat_lt}
use Rattle.std.specs.List.{list_all}
use Rattle.bit_packing.specs.Bytes.{shorts}
use Rattle.blocks.proofs.dictionary.check.are_codes.Given as goal

abbrev pub invariant-loop-i : goal.invariant-loop-i
invariant-loop-i l = l.all ≡ list_all (λ code. nat_lt code l.count) (take l.i (shorts l.rows l.bytes))
