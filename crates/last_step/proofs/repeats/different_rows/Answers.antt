-- Proofs of the goals of `different_rows` (`repeats`).
use Rattle.std.proofs.Common.{rules}
use Rattle.std.proofs.lemmas.Fn.{dedup_same}
use Rattle.last_step.proofs.repeats.different_rows.Goals as goal

pub returns : goal.returns
returns c = dedup_same _ _ _ (λ x y b f' x' y' k. search rules) _ _ c.dedup_by.ensures.filtered
