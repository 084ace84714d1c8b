-- Proofs of the goals of `EntryMarks::new` (`marks`).
use Rattle.std.proofs.Common.{refl}
use Rattle.block_predicates.proofs.marks.EntryMarks.new.Goals as goal

pub returns-in_default-clause-none : goal.returns-in_default-clause-none
returns-in_default-clause-none c = λ _ column stands. absurd (c.in_default.ensures.none refl column stands)
