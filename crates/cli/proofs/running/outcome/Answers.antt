-- Proofs of the goals of `outcome` (`running`).
use Rattle.std.proofs.lemmas.Result.{err_from_is_err_and}
use Rattle.cli.proofs.Refusals.{gather_refused, load_failed, load_first, load_refused, load_tried, whole_failed, whole_first, whole_refused, whole_tried, work_failed, work_first, work_refused, work_tried}
use Rattle.cli.proofs.running.outcome.Goals as goal

pub returns-in_err-load_tables-in-Load-clause-refused : goal.returns-in_err-load_tables-in-Load-clause-refused
returns-in_err-load_tables-in-Load-clause-refused g c =
    let folder = g.F.Folder.holds c.args.folder.now in
    let refused = c.in_err-load_tables-in-Load in
    let p = err_from_is_err_and c.from_residual.result c.from_residual.ensures.1 in
    rw (p.1, p.2) (load_refused folder c.args.command.now c.in-Load.directory c.as_str.result.now c.in-Load.number c.in-Load.rows refused.field-0.0
    (g.O.Write.contents c.args.out.now) (g.O.Write.contents c.load_tables.new.out) (g.E.Write.contents c.args.err.now) (g.F.Folder.wrote c.args.folder.now) (g.F.Folder.wrote c.load_tables.new.folder)
    c.in-Load.is c.as_str.ensures refused.ensures.refused refused.ensures.quiet refused.ensures.left)

pub returns-in_err-work-in-Work-clause-refused : goal.returns-in_err-work-in-Work-clause-refused
returns-in_err-work-in-Work-clause-refused g c =
    let refused = c.in_err-work-in-Work in
    let p = err_from_is_err_and c.from_residual-in_err-work-in-Work.result c.from_residual-in_err-work-in-Work.ensures.1 in
    rw (p.1, p.2) (work_refused (g.F.Folder.holds c.args.folder.now) c.args.command.now c.in-Work.command refused.field-0.0 (g.O.Write.contents c.args.out.now) (g.E.Write.contents c.args.err.now)
    (g.F.Folder.wrote c.args.folder.now) (g.F.Folder.wrote c.work.new.folder) c.in-Work.is refused.ensures.refused refused.ensures.left)

pub returns-in-Whole-clause-refused : goal.returns-in-Whole-clause-refused
returns-in-Whole-clause-refused g c =
    whole_refused (g.F.Folder.holds c.args.folder.now) c.args.command.now c.in-Whole.directory c.as_str-directory.result.now c.in-Whole.query c.as_str-query.result.now
    c.in-Whole.rows c.in-Whole.vector c.answer.result (g.O.Write.contents c.args.out.now) (g.O.Write.contents c.answer.new.out) (g.E.Write.contents c.args.err.now) (g.F.Folder.wrote c.args.folder.now)
    c.in-Whole.is c.as_str-directory.ensures c.as_str-query.ensures c.answer.ensures.refused c.answer.ensures.quiet

pub returns-in-Gather-clause-refused : goal.returns-in-Gather-clause-refused
returns-in-Gather-clause-refused g c =
    gather_refused (g.F.Folder.holds c.args.folder.now) c.args.command.now c.in-Gather.command c.gather.result (g.O.Write.contents c.args.out.now) (g.O.Write.contents c.gather.new.out) (g.E.Write.contents c.args.err.now)
    (g.F.Folder.wrote c.args.folder.now) (g.F.Folder.wrote c.gather.new.folder) c.in-Gather.is c.gather.ensures.refused c.gather.ensures.quiet c.gather.ensures.left c.gather.ensures.saved

pub returns-in_err-load_tables-in-Load-clause-first : goal.returns-in_err-load_tables-in-Load-clause-first
returns-in_err-load_tables-in-Load-clause-first g c =
    let p = err_from_is_err_and c.from_residual.result c.from_residual.ensures.1 in
    rw (p.1, p.2) (load_first (g.F.Folder.holds c.args.folder.now) (g.F.Folder.opens c.args.folder.now) (g.F.Folder.shuts c.args.folder.now) c.args.command.now c.in-Load.directory c.in-Load.number c.in-Load.rows c.in_err-load_tables-in-Load.field-0.0 c.in-Load.is)

pub returns-in_err-work-in-Work-clause-first : goal.returns-in_err-work-in-Work-clause-first
returns-in_err-work-in-Work-clause-first g c =
    let refused = c.in_err-work-in-Work in
    let p = err_from_is_err_and c.from_residual-in_err-work-in-Work.result c.from_residual-in_err-work-in-Work.ensures.1 in
    rw (p.1, p.2) (work_first (g.F.Folder.holds c.args.folder.now) (g.F.Folder.opens c.args.folder.now) (g.F.Folder.shuts c.args.folder.now) c.args.command.now c.in-Work.command refused.field-0.0 c.in-Work.is refused.ensures.first)

pub returns-in-Whole-clause-first : goal.returns-in-Whole-clause-first
returns-in-Whole-clause-first g c =
    whole_first (g.F.Folder.holds c.args.folder.now) (g.F.Folder.opens c.args.folder.now) (g.F.Folder.shuts c.args.folder.now) c.args.command.now c.in-Whole.directory c.in-Whole.query c.in-Whole.rows c.in-Whole.vector c.answer.result c.in-Whole.is

pub returns-in_err-load_tables-in-Load-clause-unwritten : goal.returns-in_err-load_tables-in-Load-clause-unwritten
returns-in_err-load_tables-in-Load-clause-unwritten g c =
    let p = err_from_is_err_and c.from_residual.result c.from_residual.ensures.1 in
    rw (p.1, p.2) (load_tried (g.F.Folder.tries c.args.folder.now) c.args.command.now c.in-Load.directory c.in-Load.number c.in-Load.rows c.in_err-load_tables-in-Load.field-0.0 c.in-Load.is c.in_err-load_tables-in-Load.ensures.unwritten)

pub returns-in_err-work-in-Work-clause-unwritten : goal.returns-in_err-work-in-Work-clause-unwritten
returns-in_err-work-in-Work-clause-unwritten g c =
    let refused = c.in_err-work-in-Work in
    let p = err_from_is_err_and c.from_residual-in_err-work-in-Work.result c.from_residual-in_err-work-in-Work.ensures.1 in
    rw (p.1, p.2) (work_tried (g.F.Folder.tries c.args.folder.now) c.args.command.now c.in-Work.command refused.field-0.0 c.in-Work.is refused.ensures.unwritten)

pub returns-in-Whole-clause-unwritten : goal.returns-in-Whole-clause-unwritten
returns-in-Whole-clause-unwritten g c =
    whole_tried (g.F.Folder.tries c.args.folder.now) c.args.command.now c.in-Whole.directory c.in-Whole.query c.in-Whole.rows c.in-Whole.vector c.answer.result c.in-Whole.is

pub returns-in_err-load_tables-in-Load-clause-failed : goal.returns-in_err-load_tables-in-Load-clause-failed
returns-in_err-load_tables-in-Load-clause-failed g c =
    let p = err_from_is_err_and c.from_residual.result c.from_residual.ensures.1 in
    rw (p.1, p.2) (load_failed g.F.Disk.Disk.shown c.args.command.now c.in-Load.directory c.in-Load.number c.in-Load.rows c.in_err-load_tables-in-Load.field-0.0 c.in-Load.is)

pub returns-in_err-work-in-Work-clause-failed : goal.returns-in_err-work-in-Work-clause-failed
returns-in_err-work-in-Work-clause-failed g c =
    let p = err_from_is_err_and c.from_residual-in_err-work-in-Work.result c.from_residual-in_err-work-in-Work.ensures.1 in
    rw (p.1, p.2) (work_failed g.F.Disk.Disk.shown c.args.command.now c.in-Work.command c.in_err-work-in-Work.field-0.0 c.in-Work.is)

pub returns-in-Whole-clause-failed : goal.returns-in-Whole-clause-failed
returns-in-Whole-clause-failed g c =
    whole_failed g.F.Disk.Disk.shown c.args.command.now c.in-Whole.directory c.in-Whole.query c.in-Whole.rows c.in-Whole.vector c.answer.result c.in-Whole.is
