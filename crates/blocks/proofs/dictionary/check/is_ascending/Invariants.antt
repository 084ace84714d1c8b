-- Loop invariants of `is_ascending` (`dictionary::check`).
use Rattle.std.proofs.Common.{◌≡◌, ◌-◌, drop}
use Rattle.meaning.specs.Order.{value_cmp, is_ascending}
use Rattle.blocks.specs.Plain.{values_form}
use Rattle.blocks.proofs.dictionary.check.is_ascending.Given as goal

abbrev pub invariant-loop-i : goal.invariant-loop-i
invariant-loop-i l =
    let values = values_form l.col_type l.count l.bytes in is_ascending value_cmp (drop (l.i - 1) values) ≡ is_ascending value_cmp values
