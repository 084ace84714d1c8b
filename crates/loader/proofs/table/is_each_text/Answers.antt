-- Proofs of the goals of `is_each_text` (`table`).
use Rattle.std.proofs.Common.{rules, sym, arith}
use Rattle.csv.specs.Records.{fields_of}
use Rattle.loader.proofs.Judging.{none_there}
use Rattle.loader.proofs.TextFields.{no_text, text_more}
use Rattle.loader.proofs.table.is_each_text.Goals as goal

pub loop-i-init : goal.loop-i-init
loop-i-init c = no_text

pub unreachable-requires : goal.unreachable-requires
unreachable-requires c =
    let past = none_there (fields_of c.args.fields.now) c.loop-i.i (sym c.in_default.ensures) in
    omega (arith, past, c.loop-i-test.true, c.len-i-end.ensures)

pub loop-i-preserved : goal.loop-i-preserved
loop-i-preserved c = text_more (fields_of c.args.fields.now) c.loop-i.i c.in-Some.field.now c.loop-i.invariant (sym c.in-Some.ensures) (search rules)
