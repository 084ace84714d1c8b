-- Proofs of the goals of `with` (`findings`).
use Rattle.std.proofs.Common.{◌≡◌, ◌+◌, Some, ap, sym, subst, ◌∙◌}
use Rattle.std.specs.Cmp.Lexicographic.{pointwise}
use Rattle.std.specs.List.{list_all}
use Rattle.std.specs.Prelude.{nat_le}
use Rattle.meaning.specs.Fitting.{are_sets_ascending, is_group_possible, is_possible}
use Rattle.meaning.specs.Order.{is_ascending, value_cmp}
use Rattle.answer_fields.specs.Keeping.{is_typed_group}
use Rattle.answer_layouts.specs.Found.{HasRows, all_rows, comes_after}
use Rattle.answer_layouts.proofs.Judging.{all_and_one, ascending_and_one, last_of, rows_of}
use Rattle.answer_layouts.proofs.findings.Judged.with.Goals as goal

pub returns : goal.returns
returns c = λ groups so_far.
    let plan = c.args.plan.now in
    let group = c.args.group in
    let key : c.into_parts-key.result.0 ≡ group.key = ap (λ g. g.key) (sym c.into_parts-key.ensures) in
    record {
      typed = all_and_one (is_typed_group plan) groups group c.args.self.are_typed c.is_typed_group.result so_far.typed c.is_typed_group.ensures;
      ascending = ascending_and_one groups group c.args.self.are_ascending c.comes_after.result c.args.self.last so_far.ascending so_far.last (c.comes_after.ensures ∙ ap (comes_after c.args.self.last) c.key.ensures);
      sets = all_and_one are_sets_ascending groups group c.args.self.are_sets c.are_sets.result so_far.sets (c.are_sets.ensures ∙ ap (list_all (λ s. is_ascending value_cmp s.entries)) c.states.ensures);
      count = subst (HasRows c.more_rows-rows.result) (ap (λ n. all_rows groups + n) c.rows.ensures ∙ sym (rows_of groups group)) (c.more_rows-rows.ensures (all_rows groups) so_far.count);
      with_rows = all_and_one (λ g. nat_le 1 g.rows) groups group c.args.self.have_rows (nat_le 1 c.rows-2.result) so_far.with_rows (ap (nat_le 1) c.rows-2.ensures);
      states = all_and_one (is_group_possible plan) groups group c.args.self.are_states_possible c.are_states_possible.result so_far.states (c.are_states_possible.ensures ∙ (λ i. pointwise (λ a s. is_possible a.kind (c.rows-3.ensures i) s) (c.as_slice-aggregates.ensures i) (c.states-2.ensures i)));
      last = ap Some key ∙ sym (last_of groups group);
    }
