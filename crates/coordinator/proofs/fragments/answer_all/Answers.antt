-- Proofs of the goals of `answer_all` (`fragments`).
use Rattle.std.proofs.Common.{ap, length, map, subst, sym, ◌∙◌}
use Rattle.std.specs.List.{range_with_len}
use Rattle.meaning.specs.declared.plan.Plan.{Plan}
use Rattle.meaning.specs.Gather.{joined}
use Rattle.meaning_laws.specs.Laws.{own_answers}
use Rattle.partial_codec.specs.Job.{JobSpec}
use Rattle.coordinator.specs.Fragment.{IsFactOf, Opens}
use Rattle.coordinator.proofs.fragments.answer_all.Goals as goal

pub returns-in-Ok-clause-state : goal.returns-in-Ok-clause-state
returns-in-Ok-clause-state c = λ rows tables are files.
    let job_is = c.in_ok-gather.ensures.job in
    let plan = ap (λ (j : JobSpec). j.plan) job_is in
    let cut = c.args.facts.cut.now in
    record {
      job = c.in-Ok.ensures.same ∙ job_is;
      cells = c.in-Ok.ensures.taken rows tables are files ∙ ap (λ (p : Plan). joined cut (own_answers p tables cut rows (range_with_len 0 (length cut)))) plan;
    }

pub answer_over-requires-clause-dims : goal.answer_over-requires-clause-dims
answer_over-requires-clause-dims c = subst (λ (j : JobSpec). Opens j (map (λ d. d.now) c.args.dims.now)) (sym c.in_ok-gather.ensures.job) c.requires.dims

pub answer_over-requires-clause-fact : goal.answer_over-requires-clause-fact
answer_over-requires-clause-fact c = subst (λ (j : JobSpec). IsFactOf j.plan c.args.facts.table.now) (sym c.in_ok-gather.ensures.job) c.requires.fact
