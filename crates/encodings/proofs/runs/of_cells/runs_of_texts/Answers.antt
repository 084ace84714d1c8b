-- Proofs of the goals of `runs_of_texts` (`runs::of_cells`).
use Rattle.std.proofs.Common.{◌≡◌, ◌∙◌, sym, subst, ℕ, ◌-◌, arith, rules, map, take, drop, true, false}
use Rattle.meaning.specs.declared.value.Value.TheVariants.{Text}
use Rattle.encodings.proofs.EncodedRuns.{RunsSoFar, runs_goes_on, runs_go_apart, runs_done, same_at, rows_of}
use Rattle.encodings.proofs.runs.of_cells.runs_of_texts.Goals as goal
use Rattle.encodings.proofs.runs.of_cells.runs_of_texts.Goals.{then-not-is_same_text+in_ok-put, else-not-is_same_text}

pub loop-row-preserved : goal.loop-row-preserved
loop-row-preserved c =
    let long = rows_of c.args.texts.now c.args.from c.args.to (omega arith) in
    let begun = c.loop-row.invariant.begun in
    elim c.if-not-is_same_text.branch [
      | then-not-is_same_text+in_ok-put w ↦
          let other : c.is_same_text.result ≡ false = search rules in
          rw (w.runs-is, w.start-is) (runs_go_apart (map Text (take (c.args.to - c.args.from) (drop c.args.from c.args.texts.now))) _ _ w.put.new.self.starts.items w.put.new.self.lengths.items c.loop-row.start c.loop-row.row c.loop-row.invariant (omega arith) (sym (same_at c.args.texts.now c.args.from c.args.to c.loop-row.row c.loop-row.start c.is_same_text.result (omega arith) (omega arith) (omega arith) c.is_same_text.ensures) ∙ other) w.in_ok-put.ensures.starts w.in_ok-put.ensures.lengths)
      | else-not-is_same_text w ↦
          let same : c.is_same_text.result ≡ true = search rules in
          rw (w.runs-is, w.start-is) (runs_goes_on (map Text (take (c.args.to - c.args.from) (drop c.args.from c.args.texts.now))) _ _ c.loop-row.start c.loop-row.row c.loop-row.invariant (omega arith) (sym (same_at c.args.texts.now c.args.from c.args.to c.loop-row.row c.loop-row.start c.is_same_text.result (omega arith) (omega arith) (omega arith) c.is_same_text.ensures) ∙ same))
    ]

pub returns : goal.returns
returns c =
    let long = rows_of c.args.texts.now c.args.from c.args.to (omega arith) in
    let end : c.loop-row.row ≡ c.args.to - c.args.from = omega arith in
    let so_far : RunsSoFar (map Text (take (c.args.to - c.args.from) (drop c.args.from c.args.texts.now))) c.loop-row.runs.starts.items c.loop-row.runs.lengths.items c.loop-row.start (c.args.to - c.args.from) =
    subst (λ (k : ℕ). RunsSoFar (map Text (take (c.args.to - c.args.from) (drop c.args.from c.args.texts.now))) c.loop-row.runs.starts.items c.loop-row.runs.lengths.items c.loop-row.start k) end c.loop-row.invariant in
    runs_done (map Text (take (c.args.to - c.args.from) (drop c.args.from c.args.texts.now))) _ _ _ _ _ (c.args.to - c.args.from) so_far (sym long) c.in_ok-put-2.ensures.starts c.in_ok-put-2.ensures.lengths
