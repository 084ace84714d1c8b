-- Proofs of the goals of `FragmentView::group` (`view`).
use Rattle.std.proofs.Common.{List, ◌<◌, [], length, map, get_or, sym, ap, subst, ◌∙◌, arith}
use Rattle.std.proofs.lemmas.List.{get_or-map, length-map}
use Rattle.blocks.specs.Block.{Block}
use Rattle.fragment_file.specs.declared.view.BlockLocation.{BlockLocation}
use Rattle.fragment_file.specs.Fragment.{FragmentSpec, AreBlocks, IsFragment}
use Rattle.fragment_file.specs.Lent.{AreTypedBlocks, blocks_in}
use Rattle.fragment_file.specs.View.{IsGroupAt, block_in, rows_of}
use Rattle.fragment_file.proofs.CopiedColumns.{group_blocks, group_count}
use Rattle.fragment_file.proofs.Locations.{group_at_index}
use Rattle.fragment_file.proofs.TypedValues.{group_typed}
use Rattle.fragment_file.proofs.view.FragmentView.group.Goals as goal

pub lend_group-requires : goal.lend_group-requires
lend_group-requires c =
    let bytes = c.self.inside.bytes.now in
    let groups = c.self.inside.groups in
    let lent = ap (λ (v : FragmentSpec). length v.groups) c.self.view_is in
    let below = c.requires in
    let lt : c.args.index < length groups = omega (arith, below, lent, length-map groups (map (block_in bytes))) in
    let same = c.as_slice-2.ensures ∙ c.index-as_slice-index.is ∙ ap (λ (gs : List (List BlockLocation)). get_or gs c.args.index c.index-as_slice-index.result) c.as_slice.ensures in
    subst (IsGroupAt bytes) (sym same) (group_at_index c.self.inside.header bytes groups c.args.index c.index-as_slice-index.result c.self.invariant lt)

pub returns-clause-count : goal.returns-clause-count
returns-clause-count c =
    let blocks = map (block_in c.self.inside.bytes.now) in
    let groups = c.self.inside.groups in
    let lent = ap (λ (v : FragmentSpec). length v.groups) c.self.view_is in
    let below = c.requires in
    let lt : c.args.index < length groups = omega (arith, below, lent, length-map groups blocks) in
    let same = c.as_slice-2.ensures ∙ c.index-as_slice-index.is ∙ ap (λ (gs : List (List BlockLocation)). get_or gs c.args.index c.index-as_slice-index.result) c.as_slice.ensures in
    let value = c.lend_group.ensures.value ∙ ap blocks same ∙ sym (get_or-map blocks groups c.args.index c.index-as_slice-index.result [] lt)
    ∙ ap (λ (v : FragmentSpec). get_or v.groups c.args.index []) c.self.view_is in
    ap length value ∙ group_count c.args.self.now c.args.index (subst IsFragment c.self.view_is c.self.invariant.fragment) c.requires

pub returns-clause-blocks : goal.returns-clause-blocks
returns-clause-blocks c =
    let blocks = map (block_in c.self.inside.bytes.now) in
    let groups = c.self.inside.groups in
    let lent = ap (λ (v : FragmentSpec). length v.groups) c.self.view_is in
    let below = c.requires in
    let lt : c.args.index < length groups = omega (arith, below, lent, length-map groups blocks) in
    let same = c.as_slice-2.ensures ∙ c.index-as_slice-index.is ∙ ap (λ (gs : List (List BlockLocation)). get_or gs c.args.index c.index-as_slice-index.result) c.as_slice.ensures in
    let value = c.lend_group.ensures.value ∙ ap blocks same ∙ sym (get_or-map blocks groups c.args.index c.index-as_slice-index.result [] lt)
    ∙ ap (λ (v : FragmentSpec). get_or v.groups c.args.index []) c.self.view_is in
    subst (λ (bs : List Block). AreBlocks c.args.self.now.header.columns (rows_of bs) bs) (sym value)
    (group_blocks c.args.self.now c.args.index (subst IsFragment c.self.view_is c.self.invariant.fragment) c.requires)

pub returns-clause-typed : goal.returns-clause-typed
returns-clause-typed c =
    let bytes = c.self.inside.bytes.now in
    let groups = c.self.inside.groups in
    let lent = ap (λ (v : FragmentSpec). length v.groups) c.self.view_is in
    let below = c.requires in
    let lt : c.args.index < length groups = omega (arith, below, lent, length-map groups (map (block_in bytes))) in
    let same = c.as_slice-2.ensures ∙ c.index-as_slice-index.is ∙ ap (λ (gs : List (List BlockLocation)). get_or gs c.args.index c.index-as_slice-index.result) c.as_slice.ensures in
    let value = c.lend_group.ensures.value ∙ ap (map (block_in bytes)) same ∙ sym (get_or-map (map (block_in bytes)) groups c.args.index c.index-as_slice-index.result [] lt)
    ∙ ap (λ (v : FragmentSpec). get_or v.groups c.args.index []) c.self.view_is in
    let blocks = subst (λ (bs : List Block). AreBlocks c.args.self.now.header.columns (rows_of bs) bs) (sym value)
    (group_blocks c.args.self.now c.args.index (subst IsFragment c.self.view_is c.self.invariant.fragment) c.requires) in
    subst (AreTypedBlocks c.args.self.now.header.columns) (sym c.lend_group.ensures.value)
    (group_typed c.args.self.now.header.columns (rows_of (blocks_in c.lend_group.result)) bytes c.as_slice-2.result.now c.lend_group.ensures.bytes
    (subst (AreBlocks c.args.self.now.header.columns (rows_of (blocks_in c.lend_group.result))) c.lend_group.ensures.value blocks))
