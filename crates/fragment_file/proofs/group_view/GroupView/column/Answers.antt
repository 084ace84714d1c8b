-- Proofs of the goals of `GroupView::column` (`group_view`).
use Rattle.std.proofs.Common.{◌<◌, length, arith}
use Rattle.std.proofs.lemmas.List.{length-map}
use Rattle.fragment_file.specs.View.{block_in}
use Rattle.fragment_file.proofs.Locations.{block_sound}
use Rattle.fragment_file.proofs.group_view.GroupView.column.Goals as goal

pub lend_block-requires-clause-sound : goal.lend_block-requires-clause-sound
lend_block-requires-clause-sound c =
    let bytes = c.args.self.now.bytes.now in
    let locations = c.args.self.now.locations.now in
    let below = c.requires in
    let lt : c.args.index < length locations = omega (arith, below, length-map locations (block_in bytes)) in
    block_sound bytes locations c.args.index _ c.args.self.now.sound lt
