-- Proofs of the goals of `Texts::get` (`texts`).
use Rattle.std.proofs.Common.{◌∙◌, ap, length, []}
use Rattle.meaning.specs.declared.value.Value.TheVariants.{Text}
use Rattle.vectors.specs.Lanes.{texts_of}
use Rattle.vectors.proofs.Lanes.{cell_within, null_marked, null_lane, value_lane}
use Rattle.vectors.proofs.texts.Texts.get.Goals as goal

pub is_null-requires : goal.is_null-requires
is_null-requires c = null_marked Text (texts_of c.self.inside.cells) c.self.inside.nulls c.args.self.now c.self.invariant c.self.view_is c.args.lane c.requires

pub returns-then-is_null : goal.returns-then-is_null
returns-then-is_null c =
    let cells = texts_of c.self.inside.cells in
    let within = cell_within Text cells c.self.inside.nulls c.args.self.now c.self.invariant c.self.view_is c.args.lane c.requires in
    null_lane Text cells c.self.inside.nulls c.args.self.now c.self.invariant c.self.view_is c.args.lane c.requires [] (c.if-is_null.ensures (length cells) within)

pub cell-requires : goal.cell-requires
cell-requires c = cell_within Text (texts_of c.self.inside.cells) c.self.inside.nulls c.args.self.now c.self.invariant c.self.view_is c.args.lane c.requires

pub returns : goal.returns
returns c =
    let cells = texts_of c.self.inside.cells in
    let within = cell_within Text cells c.self.inside.nulls c.args.self.now c.self.invariant c.self.view_is c.args.lane c.requires in
    ap Text c.cell.ensures ∙ value_lane Text cells c.self.inside.nulls c.args.self.now c.self.invariant c.self.view_is c.args.lane c.requires [] (c.if-is_null.ensures (length cells) within)
