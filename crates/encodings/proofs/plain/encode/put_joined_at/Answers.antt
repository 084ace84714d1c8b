-- Proofs of the goals of `put_joined_at` (`plain::encode`).
use Rattle.std.proofs.Common.{◌∙◌, ◌++◌, ◌-◌, take, drop, get_or, [], arith}
use Rattle.std.specs.List.{concat}
use Rattle.encodings.proofs.EncodedForms.{joined_at_step, all_indexes, index_below}
use Rattle.encodings.proofs.plain.encode.put_joined_at.Goals as goal

pub loop-row-preserved : goal.loop-row-preserved
loop-row-preserved c =
    joined_at_step (λ row. get_or (take (c.args.to - c.args.from) (drop c.args.from c.args.texts.now)) row []) c.args.rows.now c.loop-row.row-index c.text_at.result.now c.args.out.now.items c.loop-row.out.items c.extend_from_slice.new.self.items (omega arith) c.text_at.ensures.value c.loop-row.invariant c.in_ok-extend_from_slice.ensures.items

pub returns : goal.returns
returns c = c.loop-row.invariant ∙ all_indexes (λ ts. c.args.out.now.items ++ concat ts) (λ row. get_or (take (c.args.to - c.args.from) (drop c.args.from c.args.texts.now)) row []) c.args.rows.now c.loop-row.row-index (omega arith)

pub text_at-requires-clause-row : goal.text_at-requires-clause-row
text_at-requires-clause-row c = index_below c.args.rows.now (c.args.to - c.args.from) c.loop-row.row-index c.requires.rows (omega arith)
