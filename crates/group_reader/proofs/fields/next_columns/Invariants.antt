-- Loop invariants of `next_columns` (`fields`).
use Rattle.std.proofs.Common.{◌≡◌, ◌-◌, [], length}
use Rattle.fragment_file.specs.FragmentReading.{columns_at}
use Rattle.fragment_file.proofs.HeaderLaws.{AreNew}
use Rattle.group_reader.proofs.Telling.{Reached}
use Rattle.group_reader.proofs.fields.next_columns.Given as goal

abbrev pub invariant-loop : goal.invariant-loop
invariant-loop g l =
    AreNew [] l.columns.items
    × (length l.columns.items ≡ l.counter)
    × Reached g.R.Read.remaining l.fn.source l.source (columns_at l.count []) (columns_at (l.count - l.counter) l.columns.items)
