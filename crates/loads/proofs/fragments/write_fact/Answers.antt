-- Proofs of the goals of `write_fact` (`fragments`).
use Rattle.std.proofs.Common.{rules}
use Rattle.loads.proofs.Unloaded.{fact_unloaded}
use Rattle.loads.proofs.fragments.write_fact.Goals as goal

pub returns-clause-refused : goal.returns-clause-refused
returns-clause-refused g c =
    fact_unloaded (g.F.Folder.holds c.args.folder.now) c.args.target.now.directory.now c.args.target.now.catalog.now (g.F.Reader.Read.remaining c.in_ok-file.file) (search rules) c.args.cut.now c.in-Err.fault c.load_refusal.result
    c.in-Err.ensures.refused (search rules)
