-- Proofs of the goals of `is_lane_key` (`column_keys`).
use Rattle.std.proofs.Common.{rules, ◌≡◌, length, get_or, [], arith}
use Rattle.group_keys.proofs.KeyRows.{one_key}
use Rattle.group_keys.proofs.column_keys.is_lane_key.Goals as goal

pub returns-clause-same : goal.returns-clause-same
returns-clause-same c =
    let key = get_or c.args.keys.now c.args.group_index [] in
    let long : length key ≡ length c.args.lanes.now = search rules in
    λ e. one_key key c.args.lanes.now c.args.at long (λ j l. c.loop-k.invariant j (omega (arith, l, c.loop-k-test.false)))
