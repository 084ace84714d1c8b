-- Proofs of the goals of `keys_of` (`keys`).
use Rattle.std.proofs.Common.{◌∙◌, inr}
use Rattle.std.specs.Prelude.{vec_items}
use Rattle.std.proofs.lemmas.Result.{err_from_is_err_and}
use Rattle.loader.specs.Source.{csv_records}
use Rattle.init.proofs.KeyColumns.{first_fault, found_is_key, key_more, no_key_more, null_is_no_key, null_is_passed, passed_more, tried_is_passed}
use Rattle.init.proofs.keys.keys_of.Goals as goal
use Rattle.init.proofs.keys.keys_of.Goals.{then-branch+in_ok-push, else-branch}

pub loop-index-preserved-then-takes_null : goal.loop-index-preserved-then-takes_null
loop-index-preserved-then-takes_null g c = (
  c.loop-index.invariant.0,
  λ csv held.
      let table = c.args.dimension.now.table in
      let records = csv_records csv in
      no_key_more table records c.loop-index.keys.items c.loop-index.index (c.loop-index.invariant.1 csv held)
      (null_is_no_key table records c.loop-index.dimension.table c.loop-index.index c.takes_null.result c.loop-index.invariant.0 c.takes_null.ensures c.if-takes_null.true),
  λ csv held.
      let table = c.args.dimension.now.table in
      let records = csv_records csv in
      passed_more table records c.loop-index.index (c.loop-index.invariant.2 csv held)
      (null_is_passed table records c.loop-index.dimension.table c.loop-index.index c.takes_null.result c.loop-index.invariant.0 c.takes_null.ensures c.if-takes_null.true),
)

pub returns-in_err-has_key-clause-refused : goal.returns-in_err-has_key-clause-refused
returns-in_err-has_key-clause-refused g c =
    let e = c.in_err-has_key.field-0.0 in
    let holds = g.F.Folder.holds c.args.folder.now in
    let first = first_fault holds c.args.path.now c.args.dimension.now.table c.loop-index.dimension.table c.loop-index.index c.takes_null.result e c.loop-index.invariant.0 c.takes_null.ensures c.if-takes_null.false c.loop-index.invariant.2 c.in_err-has_key.ensures.refused c.in_err-has_key.ensures.other in
    let p = err_from_is_err_and c.from_residual.result c.from_residual.ensures.1 in
    rw (p.1, p.2) (inr first)

pub loop-index-preserved : goal.loop-index-preserved
loop-index-preserved g c = (
  c.loop-index.invariant.0,
  λ csv held.
      let table = c.args.dimension.now.table in
      let records = csv_records csv in
      let index = c.loop-index.index in
      let is = found_is_key table records c.loop-index.dimension.table index c.takes_null.result c.in_ok-has_key.field-0 c.loop-index.invariant.0 c.takes_null.ensures c.if-takes_null.false (c.in_ok-has_key.ensures.found csv held) in
      elim c.if-branch.branch [
        | then-branch+in_ok-push w ↦ (λ k. vec_items (w.keys-is k)) ∙ w.in_ok-push.ensures.items ∙ key_more table records c.loop-index.keys.items index (c.loop-index.invariant.1 csv held) (is ∙ w.if-branch.true)
        | else-branch w ↦ (λ k. vec_items (w.keys-is k)) ∙ no_key_more table records c.loop-index.keys.items index (c.loop-index.invariant.1 csv held) (is ∙ w.if-branch.false)
      ],
  λ csv held.
      let table = c.args.dimension.now.table in
      let records = csv_records csv in
      passed_more table records c.loop-index.index (c.loop-index.invariant.2 csv held) (tried_is_passed table records c.loop-index.dimension.table c.loop-index.index c.loop-index.invariant.0 (c.in_ok-has_key.ensures.passed csv held)),
)
