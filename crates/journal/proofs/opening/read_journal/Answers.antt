-- Proofs of the goals of `read_journal` (`opening`).
use Rattle.std.proofs.Common.{subst, ◌∙◌}
use Rattle.std.proofs.lemmas.Result.{IfErr-weaker}
use Rattle.journal.specs.Reading.{IsNoJournal, OnlyReads, from_offset}
use Rattle.journal.specs.Fault.{IsNoFile}
use Rattle.journal.proofs.OnlyReading.{only_call, only_then, counts_behind, same_from, refuses_later}
use Rattle.journal.proofs.Files.{magic_before, no_file}
use Rattle.journal.proofs.opening.read_journal.Goals as goal

pub returns-clause-only : goal.returns-clause-only
returns-clause-only g c =
    let first = g.D.Disk.shown c.args.disk.now in
    let long = g.D.Disk.shown c.len.new.self in
    let begun = g.D.Disk.shown c.has_magic.new.disk in
    only_then first long (g.D.Disk.shown c.absorb_records.new.disk) (only_call first long c.len.result c.len.ensures.call c.len.ensures.same)
    (only_then long begun (g.D.Disk.shown c.absorb_records.new.disk) c.has_magic.ensures.only c.absorb_records.ensures.only)

pub returns-clause-refused : goal.returns-clause-refused
returns-clause-refused g c =
    let first = g.D.Disk.shown c.args.disk.now in
    let long = g.D.Disk.shown c.len.new.self in
    let begun = g.D.Disk.shown c.has_magic.new.disk in
    let job = c.args.cells.now.job in
    let to_long : OnlyReads first long = only_call first long c.len.result c.len.ensures.call c.len.ensures.same in
    let to_begun : OnlyReads first begun = only_then first long begun to_long c.has_magic.ensures.only in
    IfErr-weaker c.absorb_records.result _ _
    (λ e refused. refuses_later first begun (g.D.Disk.shown c.absorb_records.new.disk) (IsNoJournal job (from_offset 4 begun)) (IsNoFile job first.now.reads) e to_begun.honest
    (counts_behind first long begun c.in_ok-end.ensures.call.counts c.in_ok-has_magic.ensures.counts)
    (λ honest none. no_file first.now.reads (from_offset 4 first) (magic_before first long to_long honest (c.in_ok-has_magic.ensures.read c.if-not-branch.false (to_long.honest ∙ honest))) job
    (subst (IsNoJournal job) (same_from 4 first begun to_begun honest) none)) refused)
    c.absorb_records.ensures.refused
