-- Proofs of the goals of `read_spelling` (`reading`).
use Rattle.std.proofs.Common.{◌+◌, ◌<◌, length}
use Rattle.std.proofs.lemmas.Result.{IfOk-weaker, IfErr-weaker, err_from_is_err_and}
use Rattle.journal.specs.Reading.{HasNoSpelling, from_offset}
use Rattle.journal.proofs.OnlyReading.{only_then, refuses_weaker, refuses_later}
use Rattle.journal.proofs.NextRecord.{has_spelling, has_none}
use Rattle.journal.proofs.NoRecords.{no_length}
use Rattle.journal.proofs.reading.read_spelling.Goals as goal

pub returns-in_err-count-clause-refused : goal.returns-in_err-count-clause-refused
returns-in_err-count-clause-refused g c =
    let a = g.D.Disk.shown c.args.disk.now in
    let p = err_from_is_err_and c.from_residual.result c.from_residual.ensures.1 in
    rw (p.1, p.2) (refuses_weaker a (g.D.Disk.shown c.read_number.new.disk) (length (from_offset c.args.at a) < 4) (HasNoSpelling (from_offset c.args.at a)) _
    (λ honest few. no_length (from_offset c.args.at a) few) c.in_err-count.ensures.refused)

pub returns-clause-only : goal.returns-clause-only
returns-clause-only g c = only_then (g.D.Disk.shown c.args.disk.now) (g.D.Disk.shown c.read_number.new.disk) (g.D.Disk.shown c.read_bytes.new.disk) c.read_number.ensures.only c.read_bytes.ensures.only

pub returns-clause-read : goal.returns-clause-read
returns-clause-read g c =
    IfOk-weaker c.read_bytes.result _ _
    (λ bytes has. has_spelling (g.D.Disk.shown c.args.disk.now) (g.D.Disk.shown c.read_number.new.disk) c.args.at c.in_ok-count.count c.read_number.ensures.only c.in_ok-count.ensures.small c.in_ok-count.ensures.read c.args.end bytes.items has)
    c.read_bytes.ensures.read

pub returns-clause-refused : goal.returns-clause-refused
returns-clause-refused g c =
    let a = g.D.Disk.shown c.args.disk.now in
    let b = g.D.Disk.shown c.read_number.new.disk in
    IfErr-weaker c.read_bytes.result _ _
    (λ e refused. refuses_later a b (g.D.Disk.shown c.read_bytes.new.disk) (length (from_offset (c.args.at + 4) b) < c.in_ok-count.count) (HasNoSpelling (from_offset c.args.at a)) e c.read_number.ensures.only.honest c.in_ok-count.ensures.counts
    (has_none a b c.args.at c.in_ok-count.count c.read_number.ensures.only c.in_ok-count.ensures.small c.in_ok-count.ensures.read) refused)
    c.read_bytes.ensures.refused
