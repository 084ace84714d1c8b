-- Proofs of the goals of `are_null_runs_blank` (`runs::check`).
use Rattle.std.proofs.Common.{length, ◌≡◌, ◌+◌, ◌-◌, ◌<◌, ◌||◌, not, get_or, drop, map, zip, sum, sym, ap, ◌∙◌, arith}
use Rattle.std.specs.List.{list_all, range_with_len}
use Rattle.std.proofs.lemmas.List.{at_drop_all}
use Rattle.std.proofs.lemmas.List.Sums.{sum_by-drop_more}
use Rattle.meaning.specs.declared.value.Value.TheVariants.{Null}
use Rattle.bit_packing.specs.Bits.{bit_at}
use Rattle.blocks.specs.Numbers.{count_of}
use Rattle.blocks.specs.Block.{is_blank}
use Rattle.blocks.specs.Runs.{repeated, run_lengths, run_values, run_value_bytes}
use Rattle.bit_packing.proofs.Chunks.{length-shorts}
use Rattle.blocks.proofs.Ends.{length-values_form}
use Rattle.blocks.proofs.NullRuns.{is_unmasked_or_blank, null_run_step}
use Rattle.bit_packing.proofs.Steps.{and_true, and_false}
use Rattle.blocks.specs.RunsView.{RunsSpec, runs_of}
use Rattle.blocks.proofs.runs.check.are_null_runs_blank.Goals as goal

pub is_run_blank_if_null-requires-clause-covered : goal.is_run_blank_if_null-requires-clause-covered
is_run_blank_if_null-requires-clause-covered c =
    let body = c.args.body.now in
    let row = c.loop-run.run in
    let lengths = run_lengths body in
    let values = run_values c.args.col_type body in
    let lent : c.lend_runs-runs.result ≡ runs_of c.args.col_type body = c.lend_runs-runs.ensures in
    let counted : c.len-run-end.result ≡ length (run_values c.args.col_type body) = c.len-run-end.ensures.value ∙ ap (λ (r : RunsSpec). length r.values) lent in
    let long = length-shorts (count_of body) (drop 4 body) in
    let many = length-values_form c.args.col_type (count_of body) (run_value_bytes body) in
    let here : row < count_of body = omega arith in
    let read : c.length.result ≡ get_or lengths row 0 = c.length.ensures ∙ ap (λ (r : RunsSpec). get_or r.lengths row 0) lent in
    let more : sum (drop row lengths) ≡ get_or lengths row 0 + sum (drop (row + 1) lengths) = sum_by-drop_more (λ n. n) lengths row 0 (omega arith) in
    let rows = c.loop-run.invariant.rows in
    omega arith

pub returns-then-not-is_run_blank_if_null : goal.returns-then-not-is_run_blank_if_null
returns-then-not-is_run_blank_if_null c =
    let body = c.args.body.now in
    let row = c.loop-run.run in
    let lengths = run_lengths body in
    let values = run_values c.args.col_type body in
    let lent : c.lend_runs-runs.result ≡ runs_of c.args.col_type body = c.lend_runs-runs.ensures in
    let counted : c.len-run-end.result ≡ length (run_values c.args.col_type body) = c.len-run-end.ensures.value ∙ ap (λ (r : RunsSpec). length r.values) lent in
    let long = length-shorts (count_of body) (drop 4 body) in
    let many = length-values_form c.args.col_type (count_of body) (run_value_bytes body) in
    let here : row < count_of body = omega arith in
    let read : c.length.result ≡ get_or lengths row 0 = c.length.ensures ∙ ap (λ (r : RunsSpec). get_or r.lengths row 0) lent in
    let more : sum (drop row lengths) ≡ get_or lengths row 0 + sum (drop (row + 1) lengths) = sum_by-drop_more (λ n. n) lengths row 0 (omega arith) in
    let rows = c.loop-run.invariant.rows in
    let start = c.loop-run.start in
    let run = c.length.result in
    let bit = bit_at c.args.mask.now in
    let step = null_run_step bit values lengths row start (c.args.rows - start) run _ (omega arith) (omega arith) read (omega arith) c.loop-run.invariant.blank in
    let size : run ≡ start + run - start = omega arith in
    let test : (is_blank (get_or values row Null) || list_all (λ j. not (bit j)) (range_with_len start run)) ≡ c.is_run_blank_if_null.result =
    ap (λ n. is_blank (get_or values row Null) || list_all (λ j. not (bit j)) (range_with_len start n)) size
    ∙ sym (c.is_run_blank_if_null.ensures ∙ ap (λ (r : RunsSpec). is_blank (get_or r.values row Null) || list_all (λ j. not (bit j)) (range_with_len start (start + run - start))) lent) in
    and_false _ _ _ step (test ∙ c.if-not-is_run_blank_if_null.true)

pub loop-run-preserved : goal.loop-run-preserved
loop-run-preserved c =
    let body = c.args.body.now in
    let row = c.loop-run.run in
    let lengths = run_lengths body in
    let values = run_values c.args.col_type body in
    let lent : c.lend_runs-runs.result ≡ runs_of c.args.col_type body = c.lend_runs-runs.ensures in
    let counted : c.len-run-end.result ≡ length (run_values c.args.col_type body) = c.len-run-end.ensures.value ∙ ap (λ (r : RunsSpec). length r.values) lent in
    let long = length-shorts (count_of body) (drop 4 body) in
    let many = length-values_form c.args.col_type (count_of body) (run_value_bytes body) in
    let here : row < count_of body = omega arith in
    let read : c.length.result ≡ get_or lengths row 0 = c.length.ensures ∙ ap (λ (r : RunsSpec). get_or r.lengths row 0) lent in
    let more : sum (drop row lengths) ≡ get_or lengths row 0 + sum (drop (row + 1) lengths) = sum_by-drop_more (λ n. n) lengths row 0 (omega arith) in
    let rows = c.loop-run.invariant.rows in
    let start = c.loop-run.start in
    let run = c.length.result in
    let bit = bit_at c.args.mask.now in
    let step = null_run_step bit values lengths row start (c.args.rows - start) run _ (omega arith) (omega arith) read (omega arith) c.loop-run.invariant.blank in
    let size : run ≡ start + run - start = omega arith in
    let test : (is_blank (get_or values row Null) || list_all (λ j. not (bit j)) (range_with_len start run)) ≡ c.is_run_blank_if_null.result =
    ap (λ n. is_blank (get_or values row Null) || list_all (λ j. not (bit j)) (range_with_len start n)) size
    ∙ sym (c.is_run_blank_if_null.ensures ∙ ap (λ (r : RunsSpec). is_blank (get_or r.values row Null) || list_all (λ j. not (bit j)) (range_with_len start (start + run - start))) lent) in
    let left : c.args.rows - start - run ≡ c.args.rows - (start + run) = omega arith in
    record {
      rows = omega arith;
      blank = ap (λ n. list_all is_unmasked_or_blank (zip (map bit (range_with_len (start + run) n)) (repeated (drop (row + 1) (zip values lengths))))) (sym left) ∙ and_true _ _ _ step (test ∙ c.if-not-is_run_blank_if_null.false);
    }

pub returns : goal.returns
returns c =
    let body = c.args.body.now in
    let lengths = run_lengths body in
    let lent : c.lend_runs-runs.result ≡ runs_of c.args.col_type body = c.lend_runs-runs.ensures in
    let counted : c.len-run-end.result ≡ length (run_values c.args.col_type body) = c.len-run-end.ensures.value ∙ ap (λ (r : RunsSpec). length r.values) lent in
    let long = length-shorts (count_of body) (drop 4 body) in
    let many = length-values_form c.args.col_type (count_of body) (run_value_bytes body) in
    let none : sum (drop c.loop-run.run lengths) ≡ 0 = at_drop_all sum lengths c.loop-run.run (omega arith) in
    let rows = c.loop-run.invariant.rows in
    let done : c.args.rows - c.loop-run.start ≡ 0 = omega arith in
    sym (ap (λ n. list_all is_unmasked_or_blank (zip (map (bit_at c.args.mask.now) (range_with_len c.loop-run.start n)) (repeated (drop c.loop-run.run (zip (run_values c.args.col_type body) lengths))))) done) ∙ c.loop-run.invariant.blank
