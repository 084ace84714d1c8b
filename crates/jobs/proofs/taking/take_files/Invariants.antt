-- Loop invariants of `take_files` (`taking`).
use Rattle.std.proofs.Common.{◌≡◌, List, take, true, ℕ}
use Rattle.jobs.specs.Taking.{TookFiles}
use Rattle.jobs.proofs.FirstUnread.{AreOpened}
use Rattle.jobs.proofs.taking.take_files.Given as goal

abbrev pub invariant-loop-path : goal.invariant-loop-path
invariant-loop-path g l = TookFiles g.T.TakesAnswers.journaled (g.F.Folder.holds l.folder) (g.T.TakesAnswers.held l.fn.taker) (g.T.TakesAnswers.held l.taker) (take l.path-index l.paths) (g.E.Write.contents l.fn.err) (g.E.Write.contents l.err)
    × AreOpened (g.F.Folder.opens l.folder) (λ (path : List ℕ). path) l.paths l.path-index
    × ((g.T.TakesAnswers.failing l.taker).is_open ≡ true)
