-- Proofs of the goals of `put_ends_at` (`plain::encode`).
use Rattle.std.proofs.Common.{◌≤◌, ◌∙◌, ◌++◌, ◌-◌, take, drop, get_or, [], length, arith}
use Rattle.std.specs.List.{flat_map}
use Rattle.meaning.specs.Limits.{max_text_bytes}
use Rattle.columns.specs.Texts.{ends_from}
use Rattle.blocks.specs.Numbers.{word_bytes}
use Rattle.encodings.proofs.EncodedForms.{ends_at_step, text_short, all_indexes}
use Rattle.encodings.proofs.plain.encode.put_ends_at.Goals as goal

pub loop-row-preserved : goal.loop-row-preserved
loop-row-preserved c =
    let short : length c.text_at.result.now ≤ max_text_bytes = text_short _ c.text_at.ensures.text in
    let step = ends_at_step (λ row. get_or (take (c.args.to - c.args.from) (drop c.args.from c.args.texts.now)) row []) c.args.rows.now c.loop-row.row-index c.loop-row.end c.text_at.result.now c.args.out.now.items c.loop-row.out.items c.put_word.new.out.items (omega arith) c.text_at.ensures.value c.loop-row.invariant.end_is c.loop-row.invariant.written c.in_ok-put_word.ensures in
    record {
      end_is = step.0;
      bound = omega arith;
      written = step.1;
    }

pub returns : goal.returns
returns c = c.loop-row.invariant.written ∙ all_indexes (λ ts. c.args.out.now.items ++ flat_map word_bytes (ends_from 0 ts)) (λ row. get_or (take (c.args.to - c.args.from) (drop c.args.from c.args.texts.now)) row []) c.args.rows.now c.loop-row.row-index (omega arith)
