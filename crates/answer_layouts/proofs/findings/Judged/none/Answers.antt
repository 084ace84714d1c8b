-- Proofs of the goals of `none` (`findings`).
use Rattle.std.proofs.Common.{refl}
use Rattle.answer_layouts.proofs.findings.Judged.none.Goals as goal

pub returns : goal.returns
returns c = λ plan. record { typed = refl; ascending = refl; sets = refl; count = refl; with_rows = refl; states = refl; last = refl }
