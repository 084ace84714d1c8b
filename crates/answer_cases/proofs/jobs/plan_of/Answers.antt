-- Proofs of the goals of `plan_of` (`jobs`).
use Rattle.std.proofs.Common.{◌∙◌, ap, length, map, arith}
use Rattle.answer_cases.proofs.SoundPlans.{is_sound}
use Rattle.answer_cases.proofs.jobs.plan_of.Goals as goal

pub returns-in-Ok : goal.returns-in-Ok
returns-in-Ok c =
    let a = c.in-Ok.ensures.aggregate in
    let long = ap length a.1 in
    is_sound c.with_parts.result a.0 c.with_parts.ensures.joins c.with_parts.ensures.conjuncts c.with_parts.ensures.keys
    (c.with_parts.ensures.aggregates ∙ a.1) a.2 a.3 (ap (map (λ i. i.expr)) c.with_parts.ensures.items ∙ c.in-Ok.ensures.item)
    c.with_parts.ensures.having c.with_parts.ensures.plain
    (record {
      text = omega (arith, c.requires, ap length c.in_ok-text.ensures, ap length c.with_parts.ensures.text);
      keys = omega (arith, ap length c.with_parts.ensures.keys);
      aggregates = omega (arith, long, ap length c.with_parts.ensures.aggregates);
    })
