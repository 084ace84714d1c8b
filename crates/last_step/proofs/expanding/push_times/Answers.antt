-- Proofs of the goals of `push_times` (`expanding`).
use Rattle.std.proofs.Common.{◌≡◌, ◌++◌, ◌∷◌, [], arith, ap, ◌∙◌, sym, append_assoc, append-nil}
use Rattle.std.specs.Prelude.{replicate}
use Rattle.last_step.proofs.Repeating.{once_more}
use Rattle.last_step.proofs.expanding.push_times.Goals as goal

pub loop-init : goal.loop-init
loop-init c = sym (append-nil c.args.rows.now)

pub loop-preserved : goal.loop-preserved
loop-preserved c =
    c.in_ok-push.ensures.ok
    ∙ (λ i. c.loop.invariant i ++ c.in_ok-copy_row.ensures i ∷ [])
    ∙ append_assoc c.args.rows.now (replicate c.loop.counter c.args.row.now) (c.args.row.now ∷ [])
    ∙ ap (λ more. c.args.rows.now ++ more) (once_more c.loop.counter c.args.row.now)

pub returns : goal.returns
returns c =
    let all : c.loop.counter ≡ c.args.times = omega (arith, c.loop-test.false, c.loop.auto.counter-end) in
    c.loop.invariant ∙ ap (λ n. c.args.rows.now ++ replicate n c.args.row.now) all
