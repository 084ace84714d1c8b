-- Proofs of the goals of `write` (`writing`).
use Rattle.fragment_file.proofs.WrittenFiles.{best_written, file_written, long_columns}
use Rattle.fragment_file.proofs.writing.write.Goals as goal

pub put_groups-requires-clause-within : goal.put_groups-requires-clause-within
put_groups-requires-clause-within g c = long_columns c.args.header.now.columns c.args.header.now.rows c.args.columns.now c.requires.columns

pub returns-clause-ok : goal.returns-clause-ok
returns-clause-ok g c =
    let contents = g.W.Write.contents in
    file_written (contents c.args.out.now) (contents c.put_header.new.out) (contents c.put_groups.new.out) (contents c.put_seal.new.out)
    c.new-hasher.result c.put_header.new.hasher c.put_groups.new.hasher c.args.header.now c.args.columns.now c.requires.header c.requires.columns c.new-hasher.ensures
    c.in_ok-put_header.ensures.ok c.in_ok-put_groups.ensures.ok c.in_ok-put_seal.ensures

pub returns-clause-best : goal.returns-clause-best
returns-clause-best g c =
    let contents = g.W.Write.contents in
    best_written (contents c.args.out.now) (contents c.put_header.new.out) (contents c.put_groups.new.out) (contents c.put_seal.new.out)
    c.new-hasher.result c.put_header.new.hasher c.put_groups.new.hasher c.args.header.now c.args.columns.now c.requires.header c.requires.columns c.new-hasher.ensures
    c.in_ok-put_header.ensures.ok c.in_ok-put_groups.ensures.ok c.in_ok-put_seal.ensures
