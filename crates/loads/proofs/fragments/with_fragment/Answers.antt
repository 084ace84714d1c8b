-- Proofs of the goals of `with_fragment` (`fragments`).
use Rattle.loads.specs.Loading.{AreFragmentsClosed}
use Rattle.loads.proofs.HandedOn.{closed_more, ok_part}
use Rattle.loads.proofs.fragments.with_fragment.Goals as goal

pub returns-clause-closed : goal.returns-clause-closed
returns-clause-closed g c cut fragments next closed =
    let F = g.F.Folder in
    let table = c.args.target.now.catalog.now.fact in
    let files = c.in_ok-files.files in
    closed_more F.enclosed (F.wrote c.args.folder.now) c.args.target.now.load table cut fragments c.args.columns.now c.args.slice files.items c.push_back.new.self.items c.in_ok-file.file
    next c.in_ok-push_back.ensures.items c.in_ok-file.ensures.written
    (ok_part c.args.files files (λ before. AreFragmentsClosed F.enclosed (F.wrote c.args.folder.now) c.args.target.now.load table cut fragments before.items) (c.in_ok-files.was) closed)
