-- Proofs of the goals of `Ints::get` (`ints`).
use Rattle.std.proofs.Common.{◌∙◌, length, pos}
use Rattle.meaning.specs.declared.value.Value.TheVariants.{Int}
use Rattle.vectors.specs.Lanes.{ints_of}
use Rattle.vectors.proofs.Lanes.{cell_within, null_marked, null_lane, value_lane}
use Rattle.vectors.proofs.ints.Ints.get.Goals as goal

pub is_null-requires : goal.is_null-requires
is_null-requires c = null_marked Int (ints_of c.self.inside.cells) c.self.inside.nulls c.args.self.now c.self.invariant c.self.view_is c.args.lane c.requires

pub returns-then-is_null : goal.returns-then-is_null
returns-then-is_null c =
    let cells = ints_of c.self.inside.cells in
    let within = cell_within Int cells c.self.inside.nulls c.args.self.now c.self.invariant c.self.view_is c.args.lane c.requires in
    null_lane Int cells c.self.inside.nulls c.args.self.now c.self.invariant c.self.view_is c.args.lane c.requires (pos 0) (c.if-is_null.ensures (length cells) within)

pub present-requires : goal.present-requires
present-requires c = cell_within Int (ints_of c.self.inside.cells) c.self.inside.nulls c.args.self.now c.self.invariant c.self.view_is c.args.lane c.requires

pub returns : goal.returns
returns c =
    let cells = ints_of c.self.inside.cells in
    let within = cell_within Int cells c.self.inside.nulls c.args.self.now c.self.invariant c.self.view_is c.args.lane c.requires in
    c.present.ensures ∙ value_lane Int cells c.self.inside.nulls c.args.self.now c.self.invariant c.self.view_is c.args.lane c.requires (pos 0) (c.if-is_null.ensures (length cells) within)
