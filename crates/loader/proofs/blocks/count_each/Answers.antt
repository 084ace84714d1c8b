-- Proofs of the goals of `count_each` (`blocks`).
use Rattle.std.proofs.Common.{◌+◌, ◌∙◌, ap, arith, get_or, sym}
use Rattle.std.specs.Int.{from_bool}
use Rattle.std.proofs.lemmas.Option.{slice_get-get_or}
use Rattle.loader.specs.Counting.{ends_record, next_state, state_at}
use Rattle.loader.proofs.EndedRecords.{few_ended, from_bool_few, one_behind, one_ended}
use Rattle.loader.proofs.blocks.count_each.Goals as goal

pub overflow_add-records : goal.overflow_add-records
overflow_add-records c =
    let few = few_ended (state_at c.args.state) c.args.block.now c.loop-byte.byte-index c.loop-byte.records (omega (arith, c.loop-byte-test.true)) c.loop-byte.invariant.0 in
    let one = from_bool_few c.ends_record.result in
    omega (arith, few, one, c.loop-byte-test.true, c.requires, c.from-records.ensures)

pub loop-byte-preserved : goal.loop-byte-preserved
loop-byte-preserved c =
    let i = c.loop-byte.byte-index in
    let s = state_at c.args.state in
    let block = c.args.block.now in
    let byte = get_or block i 0 in
    let there = slice_get-get_or block i 0 c.loop-byte-test.true in
    let ends = c.from-records.ensures ∙ ap from_bool (c.ends_record.ensures ∙ ap (λ state. ends_record state byte) c.loop-byte.invariant.1) in (
      ap (λ n. c.loop-byte.records + n) ends ∙ one_ended s block i byte c.loop-byte.records there c.loop-byte.invariant.0,
      c.behind-here.ensures ∙ ap (λ state. next_state state byte) c.loop-byte.invariant.1 ∙ sym (one_behind s block i byte there),
    )
