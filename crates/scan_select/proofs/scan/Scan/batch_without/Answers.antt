-- Proofs of the goals of `batch_without` (`scan`).
use Rattle.std.proofs.Common.{◌≡◌, ℕ, ◌-◌, min, List, ap, sym, subst, refl, ◌∙◌, arith}
use Rattle.std.specs.Prelude.{All, Option, option_map, IfSome}
use Rattle.std.proofs.lemmas.Bool.{ne_eqb}
use Rattle.blocks.specs.Block.{Block}
use Rattle.fragment_file.specs.Lent.{blocks_in}
use Rattle.fragment_file.specs.View.{rows_of}
use Rattle.scan_select.specs.declared.buffers.ColumnBuffer.{ColumnBuffer}
use Rattle.scan_select.specs.Buffers.{IsFilled, IsLendable, columns_of}
use Rattle.scan_select.specs.Groups.{current_rows}
use Rattle.scan_select.specs.Scanned.{AddsColumns, ScanSpec, unpacked}
use Rattle.scan_select.proofs.Filling.{are_lendable}
use Rattle.scan_select.proofs.Rows.{batch_gives}
use Rattle.scan_select.proofs.scan.Scan.batch_without.Goals as goal

pub lend_all-requires : goal.lend_all-requires
lend_all-requires g c =
    let columns = (g.G.RowGroups.header_of c.self.inside.groups).columns in
    let group = blocks_in c.in-Some.group in
    let at = c.self.invariant in
    let stands = sym c.group.ensures.value ∙ ap (option_map blocks_in) c.in-Some.is in
    let filled = subst (λ (current : Option (List Block)). IfSome current (λ g. All (IsFilled g c.self.inside.first) c.self.inside.buffers.items)) stands at.filled in
    let rows_are = at.group_rows_are ∙ ap current_rows stands in
    let full = at.full ∙ ap (λ (k : ℕ). min c.self.inside.most (k - c.self.inside.first)) rows_are in
    let below = at.within in
    let rows : c.new-batch.result.rows ≡ c.self.inside.rows = ap (λ b. b.rows) c.new-batch.ensures in
    subst (λ (bs : List ColumnBuffer). All (IsLendable group c.self.inside.first c.new-batch.result.rows) bs) (sym c.as_slice.ensures.value)
    (subst (λ (k : ℕ). All (IsLendable group c.self.inside.first k) c.self.inside.buffers.items) (sym rows)
    (are_lendable columns (rows_of group) c.self.inside.most group c.self.inside.first c.self.inside.rows c.in-Some.ensures.blocks full (omega (arith, below, rows_are)) c.self.inside.buffers.items at.of_columns filled))

pub returns : goal.returns
returns g c =
    let group = blocks_in c.in-Some.group in
    let at = c.self.invariant in
    let stands = sym c.group.ensures.value ∙ ap (option_map blocks_in) c.in-Some.is in
    let adds = subst (λ (bs : List ColumnBuffer). AddsColumns group c.self.inside.first (unpacked c.args.packed.now (columns_of bs)) c.new-batch.result c.lend_all.new.batch) c.as_slice.ensures.value c.in_ok-lend_all.ensures in
    batch_gives c.args.self.now c.args.packed.now (g.G.RowGroups.header_of c.self.inside.groups) _ c.self.inside.most c.self.inside.group_rows c.self.inside.first c.self.inside.rows c.self.inside.buffers.items _ c.new-batch.result stands
    (sym (ap (λ (s : ScanSpec _). s.header) c.self.view_is)) (sym (ap (λ (s : ScanSpec _). s.at) c.self.view_is))
    (sym (ap (λ (s : ScanSpec _). s.columns) c.self.view_is)) at c.in-Some.ensures.count c.in-Some.ensures.blocks c.in-Some.ensures.typed c.rows-rows.ensures.equal (ne_eqb _ _ c.if-self-eq0.false) refl c.new-batch.ensures adds
