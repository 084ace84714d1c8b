-- Loop invariants of `are_marked_in_word` (`marked`).
use Rattle.std.proofs.Common.{◌≡◌, ℕ, ◌+◌, ◌==◌, ◌<◌, true}
use Rattle.bit_packing.specs.Bits.{all_set_pass, is_set}
use Rattle.bit_packing.specs.Offsets.{offset_at}
use Rattle.bit_packing.proofs.marked.are_marked_in_word.Given as goal

abbrev pub invariant-loop-marks : goal.invariant-loop-marks
invariant-loop-marks l = record {
  marked : (i : ℕ) → is_set l.marks i ≡ true → l.first + i < l.rows;
  rest : all_set_pass (λ i. offset_at l.width l.packed (l.first + i) == l.number) l.marks ≡ all_set_pass (λ i. offset_at l.width l.packed (l.first + i) == l.number) l.word;
}

abbrev pub decreases-loop-marks : goal.decreases-loop-marks
decreases-loop-marks l = l.marks
