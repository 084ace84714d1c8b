-- Loop invariants of `take_lengths` (`cut_reading`).
use Rattle.std.proofs.Common.{◌≡◌, ◌-◌}
use Rattle.wire.specs.Reading.{repeat_at}
use Rattle.wire.proofs.Loops.{read_behind}
use Rattle.fragment_file.specs.CutFile.{length_at}
use Rattle.fragment_file.proofs.cut_reading.take_lengths.Given as goal

abbrev pub invariant-loop : goal.invariant-loop
invariant-loop l = read_behind length_at l.lengths.items (l.count - l.counter) l.rest ≡ repeat_at length_at l.count l.bytes
