-- Proofs of the goals of `Gather::absorb` (`gather`).
use Rattle.std.proofs.Common.{[], ◌∷◌, ◌++◌, sym, ap, ◌∙◌}
use Rattle.meaning.specs.Said.{Answer}
use Rattle.meaning.specs.Gather.{joined}
use Rattle.gathering.proofs.gather.Gather.absorb.Goals as goal

pub returns-clause-joins : goal.returns-clause-joins
returns-clause-joins c =
    λ answers a spells e.
    c.in_ok-take_answer.ensures.joins answers e
    ∙ ap (λ (x : Answer). joined c.args.self.now.job.cut (answers ++ x ∷ [])) (sym (c.in_ok-answer.ensures.only a spells))
