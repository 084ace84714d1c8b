-- Proofs of the goals of `take_files` (`taking`).
use Rattle.std.proofs.Common.{List, ℕ, subst}
use Rattle.std.proofs.lemmas.Result.{err_from_is_err_and}
use Rattle.folders.specs.Refused.{IsFirstUnread}
use Rattle.jobs.proofs.FirstUnread.{file_unread, none_opened, one_opened, same_paths}
use Rattle.jobs.proofs.TakenFiles.{one_refused, took_more, took_none}
use Rattle.jobs.proofs.taking.take_files.Goals as goal

pub loop-path-init : goal.loop-path-init
loop-path-init g c = (
  took_none g.T.TakesAnswers.journaled (g.F.Folder.holds c.args.folder.now) (g.T.TakesAnswers.held c.args.taker.now) (g.E.Write.contents c.args.err.now),
  none_opened (g.F.Folder.opens c.args.folder.now) (λ (path : List ℕ). path) c.args.paths.now,
  c.requires,
)

pub loop-path-preserved : goal.loop-path-preserved
loop-path-preserved g c = (
  took_more g.T.TakesAnswers.journaled (g.F.Folder.holds c.args.folder.now) (g.T.TakesAnswers.held c.args.taker.now) (g.T.TakesAnswers.held c.loop-path.taker) (g.T.TakesAnswers.held c.take_file.new.taker) c.args.paths.now c.loop-path.path-index c.path-item.result
      (g.E.Write.contents c.args.err.now) (g.E.Write.contents c.loop-path.err) (g.E.Write.contents c.take_file.new.err)
      c.loop-path-test.true c.path-item.is c.loop-path.invariant.0 c.in_ok-take_file.ensures.takes,
  one_opened (g.F.Folder.opens c.args.folder.now) (λ (path : List ℕ). path) c.args.paths.now c.loop-path.path-index c.path-item.result c.loop-path-test.true c.path-item.is c.loop-path.invariant.1 c.in_ok-take_file.ensures.opened,
  c.in_ok-take_file.ensures.stays_open,
)

pub returns-in_err-take_file-clause-first : goal.returns-in_err-take_file-clause-first
returns-in_err-take_file-clause-first g c =
    let p = err_from_is_err_and c.from_residual.result c.from_residual.ensures.1 in
    rw (p.1, p.2) (subst (λ (ps : List (List ℕ)). IsFirstUnread (g.F.Folder.opens c.args.folder.now) ps c.in_err-take_file.field-0.0) (same_paths c.args.paths.now)
    (file_unread g.T.TakesAnswers.journaled (g.F.Folder.holds c.args.folder.now) (g.F.Folder.opens c.args.folder.now) c.args.paths.now c.loop-path.path-index c.path-item.result c.in_err-take_file.field-0.0 c.loop-path-test.true c.path-item.is c.loop-path.invariant.1 c.in_err-take_file.ensures.refused))

pub returns-in_err-take_file-clause-refused : goal.returns-in_err-take_file-clause-refused
returns-in_err-take_file-clause-refused g c =
    let p = err_from_is_err_and c.from_residual.result c.from_residual.ensures.1 in
    rw (p.1, p.2)
    (one_refused g.T.TakesAnswers.journaled (g.F.Folder.holds c.args.folder.now) c.args.paths.now c.loop-path.path-index c.path-item.result c.in_err-take_file.field-0.0 c.loop-path-test.true c.path-item.is c.in_err-take_file.ensures.refused)
