-- Proofs of the goals of `read` (`opening`).
use Rattle.std.proofs.Common.{map}
use Rattle.wire.proofs.Seals.{magic_takes}
use Rattle.fragment_file.specs.Fragment.{fragment_magic, group_sizes, header_bytes}
use Rattle.fragment_file.specs.View.{block_in}
use Rattle.fragment_file.proofs.HeaderLaws.{header_takes}
use Rattle.fragment_file.proofs.GroupLaws.{groups_takes}
use Rattle.fragment_file.proofs.Locations.{end_behind}
use Rattle.fragment_file.proofs.opening.read.Goals as goal

pub take_groups-requires : goal.take_groups-requires
unfolding fragment_magic
take_groups-requires c =
    let magic = magic_takes _ c.args.bytes.now c.in_ok-rest.rest.now (λ i. (c.type_inv.bytes i).fits) c.in_ok-rest.ensures in
    let header = header_takes c.in_ok-rest.rest.now (c.in_ok-header.header, c.in_ok-header.rest.now) magic.rest_fits c.in_ok-header.ensures in
    end_behind c.args.bytes.now c.in_ok-rest.rest.now (header_bytes c.in_ok-header.header) c.in_ok-header.rest.now (record { front = fragment_magic; parts = magic.parts }) header.0.parts

pub new-requires : goal.new-requires
new-requires c =
    let magic = magic_takes _ c.args.bytes.now c.in_ok-rest.rest.now (λ i. (c.type_inv.bytes i).fits) c.in_ok-rest.ensures in
    let header = header_takes c.in_ok-rest.rest.now (c.in_ok-header.header, c.in_ok-header.rest.now) magic.rest_fits c.in_ok-header.ensures in
    let groups = groups_takes 0 c.in_ok-header.header.columns (group_sizes c.in_ok-header.header.rows) c.in_ok-header.rest.now (map (map (block_in c.args.bytes.now)) c.in_ok-groups.groups, c.in_ok-groups.rest.now)
    header.0.rest_fits (rw c.as_slice.ensures at c.in_ok-groups.ensures.read) in
    record { within = c.in_ok-groups.ensures.taken.within; fragment = record { header = header.1; groups = groups.1 } }
