-- Proofs of the goals of `with_rows` (`tables`).
use Rattle.std.proofs.Common.{◌≡◌, ℕ, ◌+◌, length, ap, arith, ◌∙◌}
use Rattle.std.proofs.lemmas.List.{length-map}
use Rattle.std.proofs.lemmas.List.FromFn.{length-range_with_len}
use Rattle.vectors.specs.Selection.{Positions}
use Rattle.group_by.specs.Shape.{GroupsSpec}
use Rattle.group_keys.specs.Rows.{row_at}
use Rattle.group_tests.proofs.tables.with_rows.Goals as goal

pub add-requires-clause-few : goal.add-requires-clause-few
add-requires-clause-few c =
    let long = ap (λ (s : Positions). length s.list) c.in_ok-selection.ensures ∙ length-range_with_len 0 c.args.lanes in
    omega (arith, long, c.requires.few)

pub returns : goal.returns
returns c =
    let list = c.in_ok-selection.selection.list in
    let long : length list ≡ c.args.lanes = ap (λ (s : Positions). length s.list) c.in_ok-selection.ensures ∙ length-range_with_len 0 c.args.lanes in
    record {
      shape_is = ap (λ (t : GroupsSpec). t.shape) c.in_ok-table.ensures;
      rows_are = ap (λ (t : GroupsSpec). t.rows) c.in_ok-table.ensures
          ∙ ap (λ (n : ℕ). c.args.table.rows + n) (length-map list (λ (at : ℕ). (row_at c.args.keys.now at, row_at c.args.arguments.now at)) ∙ long);
      handed_is = ap (λ (t : GroupsSpec). t.handed) c.in_ok-table.ensures;
    }
