-- Proofs of the goals of `take_group` (`groups`).
use Rattle.fragment_file.proofs.Locations.{number_behind}
use Rattle.fragment_file.proofs.groups.take_group.Goals as goal

pub take_blocks-requires : goal.take_blocks-requires
take_blocks-requires c = number_behind c.args.bytes.now c.args.rest.now 4 c.in_ok-stated.stated c.in_ok-stated.rest.now c.in_ok-stated.ensures c.requires
