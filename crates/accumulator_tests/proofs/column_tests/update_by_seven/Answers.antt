-- Proofs of the goals of `update_by_seven` (`column_tests`).
use Rattle.std.proofs.Common.{◌≡◌, ◌+◌, length, ap, sym, arith, ◌∙◌}
use Rattle.std.proofs.lemmas.List.FromFn.{length-range_with_len}
use Rattle.vectors.specs.Selection.{Positions}
use Rattle.accumulator_tests.proofs.column_tests.update_by_seven.Goals as goal

pub update-requires-clause-group_indexes : goal.update-requires-clause-group_indexes
update-requires-clause-group_indexes c =
    let many = c.args.many + c.args.many in
    let long : length c.in_ok-selection.selection.list ≡ many = ap (λ (s : Positions). length s.list) c.in_ok-selection.ensures ∙ length-range_with_len 0 many in
    ap length c.as_slice.ensures.value ∙ c.in_ok-ints.ensures.group_indexes ∙ sym long

pub update-requires-clause-few : goal.update-requires-clause-few
update-requires-clause-few c = λ k d here.
    let many = c.args.many + c.args.many in
    let long : length c.in_ok-selection.selection.list ≡ many = ap (λ (s : Positions). length s.list) c.in_ok-selection.ensures ∙ length-range_with_len 0 many in
    let none = c.requires.fresh k d here in
    omega (arith, none, long, c.requires.many)
