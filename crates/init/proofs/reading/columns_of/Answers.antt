-- Proofs of the goals of `columns_of` (`reading`).
use Rattle.std.proofs.Common.{◌∷◌, [], ◌++◌, ◌∙◌, false, get_or, refl}
use Rattle.init.specs.declared.findings.Findings.{Findings}
use Rattle.init.proofs.Showing.{column_more}
use Rattle.init.proofs.reading.columns_of.Goals as goal

pub loop-index-preserved : goal.loop-index-preserved
loop-index-preserved c =
    let found = c.args.findings.now in
    let index = c.loop-index.index in
    let none : Findings = record { integers = false; nulls = false } in
    c.in_ok-push.ensures.ok ∙ (λ k. c.loop-index.invariant k ++ c.in_ok-column_of.ensures k ∷ []) ∙ column_more c.args.names.now found index c.index-names-index.result (get_or found index none) none c.loop-index-test.true c.requires c.index-names-index.is refl
