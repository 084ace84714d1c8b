-- Proofs of the goals of `read_dimensions` (`working`).
use Rattle.std.proofs.Common.{[], List, ℕ, subst, sym}
use Rattle.std.proofs.lemmas.Result.{err_from_is_err_and}
use Rattle.meaning.specs.declared.plan.Join.{Join}
use Rattle.folders.specs.Each.{AreEach}
use Rattle.folders.proofs.Each.{each_next}
use Rattle.folders.specs.Folder.{dimension_path}
use Rattle.jobs.specs.Working.{IsDimensionOf}
use Rattle.jobs.proofs.FirstUnread.{first_unread, none_opened, one_opened}
use Rattle.jobs.proofs.working.read_dimensions.Goals as goal

pub loop-join-init : goal.loop-join-init
loop-join-init g c = (
  subst (λ (dims : List (List ℕ)). AreEach (IsDimensionOf (g.F.Folder.holds c.args.folder.now) c.args.directory.now) [] dims) (sym c.new-dims.ensures.items) tt,
  none_opened (g.F.Folder.opens c.args.folder.now) (λ (join : Join). dimension_path c.args.directory.now join.dim.name) c.args.joins.now,
)

pub loop-join-preserved : goal.loop-join-preserved
loop-join-preserved g c = (
  each_next (IsDimensionOf (g.F.Folder.holds c.args.folder.now) c.args.directory.now) c.args.joins.now c.loop-join.dims.items c.push.new.self.items
      c.loop-join.join-index c.join-item.result c.in_ok-read_dimension.field-0 c.loop-join-test.true c.join-item.is
      c.in_ok-push.ensures.items c.loop-join.invariant.0 c.in_ok-read_dimension.ensures.held,
  one_opened (g.F.Folder.opens c.args.folder.now) (λ (join : Join). dimension_path c.args.directory.now join.dim.name) c.args.joins.now
      c.loop-join.join-index c.join-item.result c.loop-join-test.true c.join-item.is c.loop-join.invariant.1 c.in_ok-read_dimension.ensures.opened,
)

pub returns-in_err-read_dimension-clause-first : goal.returns-in_err-read_dimension-clause-first
returns-in_err-read_dimension-clause-first g c =
    let p = err_from_is_err_and c.from_residual.result c.from_residual.ensures.1 in
    rw (p.1, p.2) (first_unread (g.F.Folder.opens c.args.folder.now) (λ (join : Join). dimension_path c.args.directory.now join.dim.name) c.args.joins.now
    c.loop-join.join-index c.join-item.result c.in_err-read_dimension.field-0.0 c.loop-join-test.true c.join-item.is c.loop-join.invariant.1 c.in_err-read_dimension.ensures.refused)
