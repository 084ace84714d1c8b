-- Proofs of the goals of `sorted_positions` (`sorting`).
use Rattle.std.proofs.Common.{ap, map, rules, ◌∙◌}
use Rattle.std.specs.Ordering.{is_lt}
use Rattle.std.proofs.lemmas.Fn.{always_returns_same}
use Rattle.std.proofs.lemmas.List.Sorted.{ranks_by}
use Rattle.std.proofs.lemmas.Result.{IfOk-weaker}
use Rattle.last_step.specs.Best.{keyed_cmp}
use Rattle.last_step.specs.declared.keyed.Keyed.{Keyed}
use Rattle.last_step.proofs.KeyedRows.{arranged_rows, keyed_total}
use Rattle.last_step.proofs.sorting.sorted_positions.Goals as goal

pub returns : goal.returns
returns c =
    let order = c.args.order.now in
    let items = c.args.items.now in
    let cmp = keyed_cmp order items in
    IfOk-weaker c.positions_of.result _ _ (λ ps read.
    arranged_rows order items c.args.kept.now.list ps.items c.in_ok-keyed.keyed.items c.sort_by.new.self.items c.in_ok-keyed.ensures.positions c.in_ok-keyed.ensures.keys c.in_ok-sort_by.ensures.permutation
    (c.in_ok-sort_by.ensures.sorted (λ (a b : Keyed). is_lt (cmp a b)) (ranks_by (keyed_total order items) (λ (k : Keyed). k)) (always_returns_same _ _ _ (λ a r f called. search rules)))
    (read ∙ ap (map (λ (k : Keyed). k.position)) c.as_slice.ensures.value)) c.positions_of.ensures
