-- Proofs of the goals of `run_explain` (`running`).
use Rattle.std.proofs.Common.{subst}
use Rattle.tools.specs.Running.{PrintsExplanation}
use Rattle.tools.proofs.running.run_explain.Goals as goal

pub returns-clause-output : goal.returns-clause-output
returns-clause-output g c =
    let holds = g.F.Folder.holds c.args.folder.now in
    let asks = g.F.Folder.asks c.args.folder.now in
    let before = g.O.Write.contents c.args.out.now in
    let after = g.O.Write.contents c.explain.new.out in
    let given : PrintsExplanation holds asks c.as_str-directory.result.now c.as_str-query.result.now c.explain.result before after = (c.explain.ensures.printed, c.explain.ensures.refused) in
    let named = subst (λ folder. PrintsExplanation holds asks folder c.as_str-query.result.now c.explain.result before after) c.as_str-directory.ensures given in
    subst (λ query. PrintsExplanation holds asks c.args.words.now.folder query c.explain.result before after) c.as_str-query.ensures named
