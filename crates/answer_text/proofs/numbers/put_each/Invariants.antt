-- Loop invariants of `put_each` (`numbers`).
use Rattle.std.proofs.Common.{◌≡◌, ◌++◌, drop, string_bytes}
use Rattle.std.specs.Prelude.{flat_map}
use Rattle.answer_text.specs.Ranges.{pending, range_text, ranges}
use Rattle.answer_text.proofs.numbers.put_each.Given as goal

abbrev pub invariant-loop-number : goal.invariant-loop-number
invariant-loop-number l = string_bytes l.out ++ pending l.range (drop l.number-index l.numbers) ≡ string_bytes l.fn.out ++ flat_map range_text (ranges l.numbers)
