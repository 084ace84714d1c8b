-- Proofs of the goals of `GroupReader::group` (`reader`).
use Rattle.std.proofs.Common.{subst}
use Rattle.fragment_file.proofs.TypedValues.{group_typed}
use Rattle.group_reader.specs.declared.standing.Standing.{Standing}
use Rattle.group_reader.specs.Reader.{IsStanding}
use Rattle.group_reader.proofs.Turns.{located_blocks, located_count, located_group, located_rows}
use Rattle.group_reader.proofs.reader.GroupReader.group.Goals as goal

pub lend_group-requires : goal.lend_group-requires
lend_group-requires g c =
    let inside = c.self.inside in
    let at = subst (λ (s : Standing). IsStanding s inside.header inside.bytes.items inside.locations.items) c.in-AtGroup.is c.self.invariant.stands in
    rw (c.as_slice.ensures.value, c.as_slice-locations.ensures.value) (located_group inside.header.columns at.0 inside.bytes.items inside.locations.items at.2)

pub returns-in-AtGroup-clause-count : goal.returns-in-AtGroup-clause-count
returns-in-AtGroup-clause-count g c =
    let inside = c.self.inside in
    let at = subst (λ (s : Standing). IsStanding s inside.header inside.bytes.items inside.locations.items) c.in-AtGroup.is c.self.invariant.stands in
    rw (← c.self.view_is, c.lend_group.ensures.value, c.as_slice.ensures.value, c.as_slice-locations.ensures.value)
    (located_count inside.header.columns at.0 inside.bytes.items inside.locations.items at.2)

pub returns-in-AtGroup-clause-blocks : goal.returns-in-AtGroup-clause-blocks
returns-in-AtGroup-clause-blocks g c =
    let inside = c.self.inside in
    let at = subst (λ (s : Standing). IsStanding s inside.header inside.bytes.items inside.locations.items) c.in-AtGroup.is c.self.invariant.stands in
    rw (← c.self.view_is, c.lend_group.ensures.value, c.as_slice.ensures.value, c.as_slice-locations.ensures.value)
    (located_blocks inside.header.columns at.0 inside.bytes.items inside.locations.items c.self.invariant.header.some at.2)

pub returns-in-AtGroup-clause-some : goal.returns-in-AtGroup-clause-some
returns-in-AtGroup-clause-some g c =
    let inside = c.self.inside in
    let at = subst (λ (s : Standing). IsStanding s inside.header inside.bytes.items inside.locations.items) c.in-AtGroup.is c.self.invariant.stands in
    rw (c.lend_group.ensures.value, c.as_slice.ensures.value, c.as_slice-locations.ensures.value, located_rows inside.header.columns at.0 inside.bytes.items inside.locations.items c.self.invariant.header.some at.2) at.1

pub returns-in-AtGroup-clause-typed : goal.returns-in-AtGroup-clause-typed
returns-in-AtGroup-clause-typed g c =
    let inside = c.self.inside in
    let at = subst (λ (s : Standing). IsStanding s inside.header inside.bytes.items inside.locations.items) c.in-AtGroup.is c.self.invariant.stands in
    let fit = rw c.as_slice.ensures.value at c.lend_group.ensures.bytes in
    rw (← c.self.view_is, c.lend_group.ensures.value, c.as_slice.ensures.value, c.as_slice-locations.ensures.value)
    (group_typed inside.header.columns at.0 inside.bytes.items inside.locations.items fit at.2.blocks)
