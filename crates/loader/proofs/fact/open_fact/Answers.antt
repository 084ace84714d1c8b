-- Proofs of the goals of `open_fact` (`fact`).
use Rattle.std.proofs.Common.{◌∙◌, refl, subst, sym}
use Rattle.loader.specs.Handing.{IsToCome}
use Rattle.loader.specs.Source.{csv_records}
use Rattle.loader.proofs.FactSteps.{opened_fact}
use Rattle.loader.proofs.Handing.{to_come}
use Rattle.loader.proofs.fact.open_fact.Goals as goal

pub returns-clause-opened : goal.returns-clause-opened
returns-clause-opened g c bytes known =
    let rows = c.in_ok-rows.rows in
    let catalog = c.args.catalog.now in
    let cut = c.args.cut.now in
    let same = c.in_ok-rows.ensures.declared.0 ∙ c.as_slice.ensures in
    let (header, others, all, ordered, left) = c.in_ok-rows.ensures.opened bytes known in
    let table = opened_fact catalog cut rows.declared.now (csv_records bytes) header others rows.order.columns.items same all (rw c.in_ok-rows.ensures.declared.0 ordered) in
    subst (IsToCome g.R.Read.remaining _) (sym table)
    (to_come g.R.Read.remaining _ rows.declared.now rows.order.columns.items 0 cut others left refl refl c.of.ensures.first c.of.ensures.lengths)
