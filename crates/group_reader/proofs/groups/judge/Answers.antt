-- Proofs of the goals of `judge` (`groups`).
use Rattle.std.proofs.Common.{rules, ◌≡◌, drop, Some}
use Rattle.fragment_file.specs.FragmentReading.{block_of, kind_of}
use Rattle.fragment_file.proofs.Locations.{block_payload}
use Rattle.group_reader.proofs.groups.judge.Goals as goal

pub location_of-requires-clause-payload : goal.location_of-requires-clause-payload
location_of-requires-clause-payload c =
    let found : block_of (kind_of c.args.code) c.args.of.now c.args.rows (drop c.args.start c.args.bytes.now) ≡ Some c.in-Some.block = search rules in
    block_payload (kind_of c.args.code) c.args.of.now c.args.rows (drop c.args.start c.args.bytes.now) c.in-Some.block found
