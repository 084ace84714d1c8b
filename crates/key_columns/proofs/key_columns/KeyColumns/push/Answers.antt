-- Proofs of the goals of `push` (`key_columns`).
use Rattle.std.proofs.Common.{rules, ◌≡◌, ◌+◌, ◌∙◌, ◌∷◌, ◌++◌, [], List, ℕ, ap, length, sym}
use Rattle.std.proofs.lemmas.List.{with_items_is}
use Rattle.meaning.specs.Order.{Row}
use Rattle.columns.specs.Column.{ColumnSpec}
use Rattle.key_columns.specs.Keys.{keys_in, AreWith}
use Rattle.key_columns.proofs.KeyRows.{keys_more}
use Rattle.key_columns.proofs.key_columns.KeyColumns.push.Goals as goal

pub returns-in-Ok-clause-pushed : goal.returns-in-Ok-clause-pushed
returns-in-Ok-clause-pushed c =
    let columns = c.self.inside.columns in
    let old = columns.items in
    let new = c.put_key.new.columns in
    let key = c.args.key.now in
    let many = c.self.inside.many in
    let with_key : AreWith key old new = search rules in
    let long : length old ≡ length key = search rules in
    let next : c.in-Some.many ≡ many + 1 = search rules in
    let same : length new ≡ columns.len = with_key.long ∙ ap (λ (xs : List ColumnSpec). length xs) (sym c.as_mut_slice.ensures.value) ∙ c.as_mut_slice.ensures.len in
    λ is.
    ap (λ (xs : List ColumnSpec). keys_in c.in-Some.many xs) (with_items_is columns new same)
    ∙ ap (λ (n : ℕ). keys_in n new) next
    ∙ keys_more many key old new long c.self.invariant with_key
    ∙ ap (λ (keys : List Row). keys ++ key ∷ []) c.self.view_is
