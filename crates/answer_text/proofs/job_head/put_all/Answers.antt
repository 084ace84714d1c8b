-- Proofs of the goals of `put_all` (`job_head`).
use Rattle.std.proofs.Common.{None, get_or, refl, string_bytes}
use Rattle.answer_text.specs.Texts.{aggregate_text}
use Rattle.meaning.specs.declared.plan.AggregateKind.TheVariants.{CountRows}
use Rattle.answer_fields.specs.declared.shape.AggregateShape.{AggregateShape}
use Rattle.answer_text.proofs.Lists.{comma_at, listed_at, listed_start}
use Rattle.answer_text.proofs.job_head.put_all.Goals as goal

abbrev none : AggregateShape
none = record { kind = CountRows; argument = None }

pub loop-aggregate-init : goal.loop-aggregate-init
loop-aggregate-init c = record { text = listed_start c.args.first.now aggregate_text (string_bytes c.args.out.now); between = refl }

pub loop-aggregate-preserved : goal.loop-aggregate-preserved
loop-aggregate-preserved c = record {
  text =
      listed_at c.args.first.now aggregate_text c.args.aggregates.now c.loop-aggregate.aggregate-index none (string_bytes c.args.out.now) (string_bytes c.loop-aggregate.out) c.loop-aggregate.between.now (string_bytes c.push_str.new.self) (aggregate_text (get_or c.args.aggregates.now c.loop-aggregate.aggregate-index none)) (string_bytes c.put_aggregate.new.out)
      c.loop-aggregate-test.true c.loop-aggregate.invariant.text c.loop-aggregate.invariant.between c.in_ok-push_str.ensures.bytes refl c.in_ok-put_aggregate.ensures;
  between = comma_at c.args.first.now c.args.aggregates.now c.loop-aggregate.aggregate-index none c.loop-aggregate-test.true;
}
