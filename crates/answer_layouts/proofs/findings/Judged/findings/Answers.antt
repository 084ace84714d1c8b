-- Proofs of the goals of `findings` (`findings`).
use Rattle.std.proofs.Common.{refl}
use Rattle.answer_layouts.proofs.findings.Judged.findings.Goals as goal

pub returns-clause-found : goal.returns-clause-found
returns-clause-found c = λ plan groups judged. record {
  typed = judged.typed;
  order = rw (judged.ascending, judged.sets) refl;
  count = judged.count;
  with_rows = judged.with_rows;
  states = judged.states;
}
