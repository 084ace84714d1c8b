-- Proofs of the goals of `sum_of` (`job_head`).
use Rattle.std.proofs.Common.{◌≡◌, ◌≤◌, ◌+◌, ◌∙◌, ap, length, arith, refl, zero-add}
use Rattle.std.specs.Prelude.{sum}
use Rattle.answer_fields.specs.Fields.{words}
use Rattle.answer_text.specs.Reading.{capped}
use Rattle.answer_text.proofs.Sums.{all_summed, summed, within}
use Rattle.answer_text.proofs.job_head.sum_of.Goals as goal

pub loop-rest-init : goal.loop-rest-init
loop-rest-init c = (λ n size. (n, size, ap capped (zero-add (sum (words n c.args.numbers.now)))), refl)

pub loop-rest-preserved : goal.loop-rest-preserved
loop-rest-preserved c = (
  λ n size.
      let (m, left, so_far) = c.loop-rest.invariant.0 n size in
      summed m c.loop-rest.total c.from.result c.saturating_add-total.result (capped (sum (words n c.args.numbers.now))) c.loop-rest.rest.now c.split_at.result.1.now c.loop-rest-test.true left so_far
      (c.from.ensures ∙ c.read_u32.ensures) c.saturating_add-total.ensures c.split_at.ensures.back,
  within (c.loop-rest.total + c.from.result) c.saturating_add-total.result c.saturating_add-total.ensures,
)

pub returns : goal.returns
returns c n size =
    let (m, left, so_far) = c.loop-rest.invariant.0 n size in
    let few : length c.loop-rest.rest.now ≤ 3 = let short = c.loop-rest-test.false in omega (arith, short) in
    all_summed m c.loop-rest.total (capped (sum (words n c.args.numbers.now))) c.loop-rest.rest.now left few c.loop-rest.invariant.1 so_far
