-- Proofs of the goals of `read_dims` (`tables`).
use Rattle.std.proofs.Common.{List, subst, take_all}
use Rattle.std.proofs.lemmas.List.Elements.{All-more}
use Rattle.meaning.specs.declared.plan.Join.{Join}
use Rattle.folders.specs.Folder.{csv_path}
use Rattle.cli.specs.Refusing.{AreJoinedAsked}
use Rattle.cli.proofs.tables.read_dims.Goals as goal

pub loop-join-preserved : goal.loop-join-preserved
loop-join-preserved g c =
    let asks = g.F.Folder.asks c.args.folder.now in
    let directory = c.args.directory.now in (
      c.in_ok-read_once.ensures.held c.loop-join.invariant.0,
      c.in_ok-read_once.ensures.asked c.loop-join.invariant.1,
      All-more (λ (join : Join). asks (csv_path directory join.dim.name)) c.args.joins.now c.loop-join.join-index c.join-item.result c.loop-join-test.true c.loop-join.invariant.2
          (subst (λ (join : Join). asks (csv_path directory join.dim.name)) c.join-item.is (c.in_ok-read_once.ensures.one c.loop-join.invariant.1)),
    )

pub returns-clause-asked : goal.returns-clause-asked
returns-clause-asked g c =
    subst (λ (joins : List Join). AreJoinedAsked (g.F.Folder.asks c.args.folder.now) c.args.directory.now joins)
    (take_all c.loop-join.join-index c.args.joins.now c.loop-join-test.false) c.loop-join.invariant.2
