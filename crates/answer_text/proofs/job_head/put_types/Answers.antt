-- Proofs of the goals of `put_types` (`job_head`).
use Rattle.std.proofs.Common.{refl, string_bytes}
use Rattle.answer_text.specs.Texts.{type_word}
use Rattle.meaning.specs.declared.value.ColType.TheVariants as of_type
use Rattle.answer_text.proofs.Lists.{comma_at, listed_at, listed_start}
use Rattle.answer_text.proofs.job_head.put_types.Goals as goal

pub loop-col_type-init : goal.loop-col_type-init
loop-col_type-init c = record { text = listed_start c.args.first.now type_word (string_bytes c.args.out.now); between = refl }

pub loop-col_type-preserved : goal.loop-col_type-preserved
loop-col_type-preserved c = record {
  text =
      listed_at c.args.first.now type_word c.args.types.now c.loop-col_type.col_type-index of_type.Int (string_bytes c.args.out.now) (string_bytes c.loop-col_type.out) c.loop-col_type.between.now (string_bytes c.push_str.new.self) c.type_word.result.now (string_bytes c.push_str-in-loop-col_type.new.self)
      c.loop-col_type-test.true c.loop-col_type.invariant.text c.loop-col_type.invariant.between c.in_ok-push_str.ensures.bytes c.type_word.ensures c.in_ok-push_str-2.ensures.bytes;
  between = comma_at c.args.first.now c.args.types.now c.loop-col_type.col_type-index of_type.Int c.loop-col_type-test.true;
}
