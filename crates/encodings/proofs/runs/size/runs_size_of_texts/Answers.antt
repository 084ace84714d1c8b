-- Proofs of the goals of `runs_size_of_texts` (`runs::size`).
use Rattle.std.proofs.Common.{◌≡◌, ◌+◌, ◌-◌, [], length, map, take, drop, get_or, sym, ap, ◌∙◌, arith}
use Rattle.std.proofs.lemmas.List.{length-map, get_or-map}
use Rattle.meaning.specs.declared.value.ColType.TheVariants as of_type
use Rattle.meaning.specs.declared.value.Value.TheVariants.{Null, Text}
use Rattle.meaning.specs.Order.{bytes}
use Rattle.blocks.specs.Runs.{run_heads}
use Rattle.encodings.proofs.EncodedRuns.{rows_of}
use Rattle.encodings.proofs.RunSizes.{runs_size, run_ends, last_run}
use Rattle.encodings.proofs.runs.size.runs_size_of_texts.Goals as goal

pub loop-row-preserved : goal.loop-row-preserved
loop-row-preserved c =
    let cells = map Text (take (c.args.to - c.args.from) (drop c.args.from c.args.texts.now)) in
    let rows = rows_of c.args.texts.now c.args.from c.args.to c.requires.within in
    let next : c.loop-row.row + 1 - 1 ≡ c.loop-row.row = omega arith in
    let counted = run_ends of_type.Text cells c.loop-row.row c.loop-row.size c.size_of_ended_text-size.result (runs_size of_type.Text (run_heads cells)) c.loop-row.invariant.some (omega arith) c.size_of_ended_text-size.ensures.value c.loop-row.invariant.counted in
    let bound = c.size_of_ended_text-size.ensures.bound in
    record { some = omega arith; within = omega arith; counted = ap (λ k. c.loop-row.size + c.size_of_ended_text-size.result + runs_size of_type.Text (run_heads (drop k cells))) next ∙ counted; few = omega arith }

pub returns : goal.returns
returns c =
    let ts = take (c.args.to - c.args.from) (drop c.args.from c.args.texts.now) in
    let cells = map Text ts in
    let rows = rows_of c.args.texts.now c.args.from c.args.to c.requires.within in
    let long = length-map ts Text in
    let row : c.loop-row.row ≡ c.args.to - c.args.from = omega arith in
    let last : Text c.text_at.result.now ≡ get_or cells (c.loop-row.row - 1) Null = ap Text (c.text_at.ensures.value ∙ ap (λ k. get_or ts (k - 1) []) (sym row)) ∙ sym (get_or-map Text ts (c.loop-row.row - 1) [] Null (omega arith)) in
    let size : 2 + (4 + length c.text_at.result.now) ≡ 2 + (4 + length (bytes (get_or cells (c.loop-row.row - 1) Null))) = ap (λ v. 2 + (4 + length (bytes v))) last in
    let all = last_run of_type.Text cells c.loop-row.row c.loop-row.size (2 + (4 + length c.text_at.result.now)) (runs_size of_type.Text (run_heads cells)) c.loop-row.invariant.some (omega arith) size c.loop-row.invariant.counted in
    omega arith
