-- Loop invariants of `sum_of` (`job_head`).
use Rattle.std.proofs.Common.{◌≡◌, ℕ, ◌+◌, ◌*◌, List, length}
use Rattle.std.specs.Prelude.{sum}
use Rattle.answer_fields.specs.Fields.{words}
use Rattle.answer_text.specs.Reading.{capped}
use Rattle.answer_text.proofs.job_head.sum_of.Given as goal

abbrev pub invariant-loop-rest : goal.invariant-loop-rest
invariant-loop-rest l = ((n : ℕ) → length l.numbers ≡ n * 4 → (m : ℕ) × (length l.rest ≡ m * 4) × (capped (l.total + sum (words m l.rest)) ≡ capped (sum (words n l.numbers))))
    × (l.total ≡ capped l.total)

abbrev pub decreases-loop-rest : goal.decreases-loop-rest
decreases-loop-rest l = length l.rest
