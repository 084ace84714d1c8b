-- Proofs of the goals of `runs_of_ints` (`runs::of_cells`).
use Rattle.std.proofs.Common.{◌≡◌, ◌∙◌, sym, subst, ℕ, arith, rules, length, map, true, false}
use Rattle.std.proofs.lemmas.List.{length-map}
use Rattle.meaning.specs.declared.value.Value.TheVariants.{Int}
use Rattle.encodings.proofs.EncodedRuns.{RunsSoFar, runs_goes_on, runs_go_apart, runs_done}
use Rattle.encodings.proofs.runs.of_cells.runs_of_ints.Goals as goal
use Rattle.encodings.proofs.runs.of_cells.runs_of_ints.Goals.{then-not-is_same_int+in_ok-put, else-not-is_same_int}

pub loop-row-preserved : goal.loop-row-preserved
loop-row-preserved c =
    let long = length-map c.args.ints.now (λ n. Int n) in
    let begun = c.loop-row.invariant.begun in
    elim c.if-not-is_same_int.branch [
      | then-not-is_same_int+in_ok-put w ↦
          let other : c.is_same_int.result ≡ false = search rules in
          rw (w.runs-is, w.start-is) (runs_go_apart (map Int c.args.ints.now) _ _ w.put.new.self.starts.items w.put.new.self.lengths.items c.loop-row.start c.loop-row.row c.loop-row.invariant (omega arith) (sym (c.is_same_int.ensures) ∙ other) w.in_ok-put.ensures.starts w.in_ok-put.ensures.lengths)
      | else-not-is_same_int w ↦
          let same : c.is_same_int.result ≡ true = search rules in
          rw (w.runs-is, w.start-is) (runs_goes_on (map Int c.args.ints.now) _ _ c.loop-row.start c.loop-row.row c.loop-row.invariant (omega arith) (sym (c.is_same_int.ensures) ∙ same))
    ]

pub returns : goal.returns
returns c =
    let long = length-map c.args.ints.now (λ n. Int n) in
    let end : c.loop-row.row ≡ length c.args.ints.now = omega arith in
    let so_far : RunsSoFar (map Int c.args.ints.now) c.loop-row.runs.starts.items c.loop-row.runs.lengths.items c.loop-row.start (length c.args.ints.now) =
    subst (λ (k : ℕ). RunsSoFar (map Int c.args.ints.now) c.loop-row.runs.starts.items c.loop-row.runs.lengths.items c.loop-row.start k) end c.loop-row.invariant in
    runs_done (map Int c.args.ints.now) _ _ _ _ _ (length c.args.ints.now) so_far (sym long) c.in_ok-put-2.ensures.starts c.in_ok-put-2.ensures.lengths
