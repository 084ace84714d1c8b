-- Proofs of the goals of `add_lines` (`conditions`).
use Rattle.std.proofs.Common.{◌<◌, ◌++◌, [], length, refl, rules, sym, append-nil, arith}
use Rattle.std.specs.Prelude.{string_bytes}
use Rattle.explain.proofs.Lines.{added, all_lines, next_line}
use Rattle.explain.proofs.conditions.add_lines.Goals as goal

pub loop-at-init : goal.loop-at-init
loop-at-init c = ([], sym (append-nil (string_bytes c.args.out.now)), refl)

pub loop-at-preserved : goal.loop-at-preserved
loop-at-preserved c =
    let so_far = c.loop-at.invariant in
    let below : c.loop-at.at < length c.args.conditions.now = omega (arith, c.loop-at-test.true) in (
      so_far.0 ++ string_bytes c.in_ok-line.line,
      added (string_bytes c.args.out.now) (string_bytes c.loop-at.out) _ so_far.0 (string_bytes c.in_ok-line.line) so_far.1 (search rules),
      next_line c.args.blanks.now c.args.joins c.count_leading-leading.result c.args.conditions.now c.loop-at.at c.index-conditions-at.result so_far.0 (string_bytes c.in_ok-line.line) below c.index-conditions-at.is so_far.2 c.in_ok-line.ensures,
    )

pub returns : goal.returns
returns c =
    let so_far = c.loop-at.invariant in
    (so_far.0, so_far.1, (c.count_leading-leading.result, c.count_leading-leading.ensures, all_lines c.args.blanks.now c.args.joins c.count_leading-leading.result c.args.conditions.now c.loop-at.at so_far.0 (omega (arith, c.loop-at-test.false)) so_far.2))
