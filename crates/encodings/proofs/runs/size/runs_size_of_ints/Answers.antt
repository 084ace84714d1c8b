-- Proofs of the goals of `runs_size_of_ints` (`runs::size`).
use Rattle.std.proofs.Common.{◌≡◌, ◌+◌, ◌-◌, map, drop, refl, ap, ◌∙◌, arith}
use Rattle.std.proofs.lemmas.List.{length-map}
use Rattle.meaning.specs.declared.value.ColType.TheVariants as of_type
use Rattle.meaning.specs.declared.value.Value.TheVariants.{Int}
use Rattle.blocks.specs.Runs.{run_heads}
use Rattle.encodings.proofs.RunSizes.{runs_size, run_ends, last_run}
use Rattle.encodings.proofs.runs.size.runs_size_of_ints.Goals as goal

pub loop-row-preserved : goal.loop-row-preserved
loop-row-preserved c =
    let cells = map Int c.args.ints.now in
    let long = length-map c.args.ints.now Int in
    let next : c.loop-row.row + 1 - 1 ≡ c.loop-row.row = omega arith in
    let counted = run_ends of_type.Int cells c.loop-row.row c.loop-row.size c.size_of_ended_int-size.result (runs_size of_type.Int (run_heads cells)) c.loop-row.invariant.some (omega arith) c.size_of_ended_int-size.ensures.value c.loop-row.invariant.counted in
    record { some = omega arith; within = omega arith; counted = ap (λ k. c.loop-row.size + c.size_of_ended_int-size.result + runs_size of_type.Int (run_heads (drop k cells))) next ∙ counted; few = omega arith }

pub returns : goal.returns
returns c =
    let cells = map Int c.args.ints.now in
    let long = length-map c.args.ints.now Int in
    let all = last_run of_type.Int cells c.loop-row.row c.loop-row.size 10 (runs_size of_type.Int (run_heads cells)) c.loop-row.invariant.some (omega arith) refl c.loop-row.invariant.counted in
    omega arith
