-- Proofs of the goals of `put_ends` (`plain::encode`).
use Rattle.std.proofs.Common.{◌≤◌, length, arith}
use Rattle.meaning.specs.Limits.{max_text_bytes}
use Rattle.encodings.proofs.EncodedForms.{ends_step, text_short}
use Rattle.encodings.proofs.plain.encode.put_ends.Goals as goal

pub loop-row-preserved : goal.loop-row-preserved
loop-row-preserved c =
    let short : length c.get.result.now ≤ max_text_bytes = text_short _ c.get.ensures.text in
    let step = ends_step c.args.texts.now c.args.from c.loop-row.row c.loop-row.end c.get.result.now c.args.out.now.items c.loop-row.out.items c.put_word.new.out.items (omega arith) (omega arith) c.get.ensures.value c.loop-row.invariant.end_is c.loop-row.invariant.written c.in_ok-put_word.ensures in
    record {
      end_is = step.0;
      bound = omega arith;
      written = step.1;
    }
