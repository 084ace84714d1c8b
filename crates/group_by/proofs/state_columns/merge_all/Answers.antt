-- Proofs of the goals of `merge_all` (`state_columns`).
use Rattle.std.proofs.Common.{ℕ, ◌<◌, length, get_or, subst, sym}
use Rattle.std.proofs.lemmas.List.{get_or_default, get_or_read}
use Rattle.meaning.specs.declared.answer.Statistics.{Statistics}
use Rattle.meaning.specs.Aggregate.{no_statistics}
use Rattle.accumulators.specs.Columns.{no_column}
use Rattle.group_by.specs.GroupIndexes.{IsMerged}
use Rattle.group_by.proofs.Merging.{done_more}
use Rattle.group_by.proofs.state_columns.merge_all.Goals as goal

pub loop-k-preserved : goal.loop-k-preserved
loop-k-preserved c =
    let a = c.args in
    let k = c.loop-k.k in
    let now = c.loop-k.columns in
    let one = c.index-columns-k.result in
    let here : k < length now = subst (λ (n : ℕ). k < n) (sym c.loop-k.invariant.long) c.loop-k-test.true in
    let in_states : k < length a.states.now = subst (λ (n : ℕ). k < n) (sym c.requires.widths) c.loop-k-test.true in
    let merged = subst (λ (s : Statistics). IsMerged a.height a.group_index s (get_or now k one) c.merge.new.column) (get_or_read a.states.now k c.index-states-k.result in_states c.index-states-k.is no_statistics) c.in_ok-merge.ensures in
    done_more a.height a.group_index a.states.now k a.columns.now now (get_or now k one) c.merge.new.column here
    (get_or_default now k one no_column here) merged c.loop-k.invariant
