-- Proofs of the goals of `over` (`scan`).
use Rattle.std.proofs.Common.{ℕ, List, ◌<◌, length, ap, sym, subst, ◌∙◌}
use Rattle.std.specs.Prelude.{All}
use Rattle.fragment_file.specs.declared.header.Header.{Header}
use Rattle.scan_select.proofs.LawProofs.{columns_below}
use Rattle.scan_select.proofs.scan.Scan.over.Goals as goal

pub of_groups-requires-clause-wanted : goal.of_groups-requires-clause-wanted
of_groups-requires-clause-wanted g c =
    let columns = (g.G.RowGroups.header_of c.args.groups).columns in
    let below = columns_below c.len.result c.in-Ok.columns.items (length columns) c.in-Ok.ensures (c.len.ensures ∙ ap (λ (h : Header). length h.columns) c.header.ensures.value) in
    subst (λ (ps : List ℕ). All (λ p. p < length columns) ps) (sym c.as_slice.ensures.value) below
