-- Proofs of the goals of `update_all` (`state_columns`).
use Rattle.std.proofs.Common.{ℕ, ◌<◌, length, zip, get_or, subst, sym}
use Rattle.std.proofs.lemmas.List.{get_or_default}
use Rattle.vectors.specs.declared.vector.Vector.{Vector}
use Rattle.aggregate_states.specs.Values.{selected}
use Rattle.vectors.specs.Vector.{values_of}
use Rattle.accumulators.specs.Columns.{no_column}
use Rattle.group_by.specs.GroupIndexes.{IsUpdated}
use Rattle.group_index.specs.RowGroups.{listed}
use Rattle.group_by.proofs.Updating.{done_more}
use Rattle.group_by.proofs.state_columns.update_all.Goals as goal

pub loop-k-preserved : goal.loop-k-preserved
loop-k-preserved c =
    let a = c.args in
    let k = c.loop-k.k in
    let now = c.loop-k.columns in
    let one = c.index-columns-k.result in
    let lanes = c.index-arguments-k.result in
    let list = a.selection.now.list in
    let here : k < length now = subst (λ (n : ℕ). k < n) (sym c.loop-k.invariant.long) c.loop-k-test.true in
    let in_arguments : k < length a.arguments.now = subst (λ (n : ℕ). k < n) (sym c.requires.widths) c.loop-k-test.true in
    let entries = subst (λ (v : Vector). IsUpdated a.height (zip (listed a.group_indexes.now) (selected (values_of v) list)) (get_or now k one) c.update.new.column) c.index-arguments-k.is c.in_ok-update.ensures in
    done_more a.height (listed a.group_indexes.now) a.arguments.now list k a.columns.now now lanes (get_or now k one) c.update.new.column here in_arguments
    (get_or_default now k one no_column here) entries c.loop-k.invariant
