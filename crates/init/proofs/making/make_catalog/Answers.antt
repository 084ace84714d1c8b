-- Proofs of the goals of `make_catalog` (`making`).
use Rattle.std.specs.Prelude.{option_map}
use Rattle.std.proofs.lemmas.Result.{err_from_is_err_and}
use Rattle.init.proofs.Untried.{untried_guess}
use Rattle.init.proofs.making.make_catalog.Goals as goal

pub returns-in_err-text-clause-unwritten : goal.returns-in_err-text-clause-unwritten
returns-in_err-text-clause-unwritten g c =
    let p = err_from_is_err_and c.from_residual-in_err-text.result c.from_residual-in_err-text.ensures.1 in
    let folder = c.args.folder.now in
    rw (p.1, p.2) (untried_guess (g.F.Folder.tries folder) (g.F.Folder.holds folder) (g.F.Listing.lists folder) (g.F.Listing.hides folder) c.args.directory.now (option_map (λ fact. fact.now) c.args.fact) c.in_err-text.field-0.0 c.in_err-text.ensures.refused)
