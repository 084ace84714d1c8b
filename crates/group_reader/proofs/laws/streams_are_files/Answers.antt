-- Proofs of the goals of `streams_are_files` (`laws`).
use Rattle.group_reader.proofs.Streams as streams
use Rattle.group_reader.proofs.laws.streams_are_files.Goals as goal

pub returns : goal.returns
returns c = streams.streams_are_files
