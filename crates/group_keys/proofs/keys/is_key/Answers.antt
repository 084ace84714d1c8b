-- Proofs of the goals of `is_key` (`keys`).
use Rattle.std.proofs.Common.{◌≡◌, rules, length, arith}
use Rattle.group_keys.proofs.KeyRows.{one_key}
use Rattle.group_keys.proofs.keys.is_key.Goals as goal

pub returns-clause-same : goal.returns-clause-same
returns-clause-same c =
    let long : length c.args.key.now ≡ length c.args.lanes.now = search rules in
    λ e. one_key c.args.key.now c.args.lanes.now c.args.at long (λ j l. c.loop-k.invariant j (omega (arith, l, c.loop-k-test.false)))
