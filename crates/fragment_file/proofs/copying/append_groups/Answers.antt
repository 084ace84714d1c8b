-- Proofs of the goals of `append_groups` (`copying`).
use Rattle.std.proofs.Common.{refl, sym, ap, ◌∙◌, arith}
use Rattle.columns.specs.Column.{ColumnSpec}
use Rattle.fragment_file.specs.Lent.{blocks_in}
use Rattle.fragment_file.proofs.CopiedColumns.{none, no_values, declared_is, block_more, all_groups}
use Rattle.fragment_file.proofs.copying.append_groups.Goals as goal

pub loop-group-init : goal.loop-group-init
loop-group-init c = (no_values c.args.column.now, refl)

pub append_block-requires-clause-room : goal.append_block-requires-clause-room
append_block-requires-clause-room c =
    let same = c.loop-group.invariant.1 in
    let enough = c.requires.room in
    omega (arith, same, enough)

pub append_block-requires-clause-col_type : goal.append_block-requires-clause-col_type
append_block-requires-clause-col_type c =
    let below = c.loop-group-test.true in
    let count = c.group_count-group-end.ensures in
    let is = declared_is c.args.view.now (blocks_in c.group.result) c.column-block.result c.loop-group.group c.args.index none c.header-header.ensures.sound (omega (arith, below, count)) c.group.ensures.value c.column-block.ensures c.requires.within in
    is.1.col_type ∙ sym (c.requires.col_type none) ∙ ap (λ (s : ColumnSpec). s.col_type) (sym c.loop-group.invariant.0)

pub append_block-requires-clause-nullable : goal.append_block-requires-clause-nullable
append_block-requires-clause-nullable c =
    let below = c.loop-group-test.true in
    let count = c.group_count-group-end.ensures in
    let is = declared_is c.args.view.now (blocks_in c.group.result) c.column-block.result c.loop-group.group c.args.index none c.header-header.ensures.sound (omega (arith, below, count)) c.group.ensures.value c.column-block.ensures c.requires.within in
    is.1.nullable ∙ sym (c.requires.nullable none) ∙ ap (λ (s : ColumnSpec). s.nullable) (sym c.loop-group.invariant.0)

pub loop-group-preserved : goal.loop-group-preserved
loop-group-preserved c =
    let below = c.loop-group-test.true in
    let count = c.group_count-group-end.ensures in (
      block_more c.args.column.now c.loop-group.column c.append_block.new.column c.args.view.now.groups (blocks_in c.group.result) c.column-block.result c.loop-group.group c.args.index
          (omega (arith, below, count)) c.group.ensures.value c.column-block.ensures c.loop-group.invariant.0 c.in_ok-append_block.ensures.ok,
      c.in_ok-append_block.ensures.room ∙ c.loop-group.invariant.1,
    )

pub returns-clause-ok : goal.returns-clause-ok
returns-clause-ok c =
    let end = c.loop-group-test.false in
    let count = c.group_count-group-end.ensures in
    all_groups c.args.column.now c.loop-group.column c.args.view.now.groups c.loop-group.group c.args.index (omega (arith, end, count)) c.loop-group.invariant.0
