-- Proofs of the goals of `row_groups_in_turn_are_the_file` (`laws`).
use Rattle.group_reader.proofs.Streams as streams
use Rattle.group_reader.proofs.laws.row_groups_in_turn_are_the_file.Goals as goal

pub returns : goal.returns
returns c = streams.in_turn
