-- Proofs of the goals of `check_fact_file` (`checking`).
use Rattle.loader.specs.Source.{csv_records}
use Rattle.init.proofs.Loading.{is_fact}
use Rattle.init.proofs.Refusals.{fact_refused}
use Rattle.init.proofs.checking.check_fact_file.Goals as goal

pub returns-in-Ok-clause-fit : goal.returns-in-Ok-clause-fit
returns-in-Ok-clause-fit g c = λ csv held.
    is_fact c.args.catalog.now c.in_ok-cut.cut (csv_records csv) (c.in_ok-cut.ensures.whole csv held) (c.in-Ok.ensures.passed csv (c.in_ok-file.ensures.opened csv held))

pub returns-clause-refused : goal.returns-clause-refused
returns-clause-refused g c =
    fact_refused (g.F.Folder.holds c.args.folder.now) c.args.path.now c.args.catalog.now c.in_ok-cut.cut (g.F.Reader.Read.remaining c.in_ok-file.file) c.in-Err.fault c.of_load.result c.in_ok-file.ensures.opened c.in_ok-cut.ensures.few c.in_ok-cut.ensures.whole
    c.in-Err.ensures.refused c.of_load.ensures
