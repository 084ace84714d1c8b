-- Proofs of the goals of `check_dimension_file` (`checking`).
use Rattle.loader.specs.Source.{csv_records}
use Rattle.init.proofs.Loading.{is_dimension}
use Rattle.init.proofs.Refusals.{dimension_refused}
use Rattle.init.proofs.checking.check_dimension_file.Goals as goal

pub returns-in-Ok-clause-fit : goal.returns-in-Ok-clause-fit
returns-in-Ok-clause-fit g c = λ csv held.
    let (columns, is) = c.in-Ok.ensures.passed csv (c.in_ok-file.ensures.opened csv held) in
    is_dimension c.args.dimension.now (csv_records csv) columns is

pub returns-in-Err-clause-refused : goal.returns-in-Err-clause-refused
returns-in-Err-clause-refused g c =
    dimension_refused (g.F.Folder.holds c.args.folder.now) c.args.path.now c.args.dimension.now (g.F.Reader.Read.remaining c.in_ok-file.file) c.in-Err.fault c.of_load.result c.in_ok-file.ensures.opened c.in-Err.ensures.refused c.of_load.ensures
