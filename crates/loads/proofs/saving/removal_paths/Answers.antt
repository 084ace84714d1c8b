-- Proofs of the goals of `removal_paths` (`saving`).
use Rattle.std.proofs.Common.{length, ap, ◌∙◌, arith}
use Rattle.folders.specs.Folder.{fragment_path}
use Rattle.loads.proofs.Planned.{range_more}
use Rattle.loads.proofs.saving.removal_paths.Goals as goal

pub loop-fragment-preserved : goal.loop-fragment-preserved
loop-fragment-preserved c =
    let target = c.args.target.now in
    let (from, few, are) = c.loop-fragment.invariant in (
      omega (arith, from),
      omega (arith, c.loop-fragment-test.true),
      range_more (fragment_path target.directory.now target.catalog.now.fact.name) (length c.args.cut.now) c.loop-fragment.fragment _ _ _ from are (c.in_ok-fragment_path.ensures ∙ ap (λ n. fragment_path target.directory.now n c.loop-fragment.fragment) c.as_str-name.ensures) c.in_ok-push.ensures.items,
    )
