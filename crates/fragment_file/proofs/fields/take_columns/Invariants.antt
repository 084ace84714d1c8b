-- Loop invariants of `take_columns` (`fields`).
use Rattle.std.proofs.Common.{◌≡◌, ◌-◌, []}
use Rattle.fragment_file.specs.FragmentReading.{columns_at}
use Rattle.fragment_file.proofs.fields.take_columns.Given as goal

abbrev pub invariant-loop : goal.invariant-loop
invariant-loop l = columns_at (l.count - l.counter) l.columns.items l.rest ≡ columns_at l.count [] l.bytes
