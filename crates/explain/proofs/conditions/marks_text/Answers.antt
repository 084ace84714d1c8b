-- Proofs of the goals of `marks_text` (`conditions`).
use Rattle.std.proofs.Common.{◌++◌, ℕ, List, ap, codes, ◌∙◌}
use Rattle.std.proofs.lemmas.Result.{IfOk-weaker}
use Rattle.explain.proofs.conditions.marks_text.Goals as goal

pub returns : goal.returns
returns c =
    IfOk-weaker c.format.result _ _ (λ text is. (
      c.args.table.now,
      is ∙ ap (λ (words : List ℕ). codes "once for each row of " ++ (c.args.table.now ++ words)) c.marks_words-words.ensures,
    )) c.format.ensures.ok
