-- Proofs of the goals of `put` (`changing`).
use Rattle.std.proofs.Common.{subst}
use Rattle.meaning.specs.Cut.{IsCut}
use Rattle.gathering.proofs.LiveTotals.{held_new, takes_body}
use Rattle.gathering.proofs.changing.put.Goals as goal

pub add-requires : goal.add-requires
add-requires c =
    takes_body c.args.job.now c.args.cells.now.items c.args.k c.args.body (subst IsCut c.cut.ensures c.lengths-lengths.ensures.within_limits)
    c.requires.within c.requires.nothing c.requires.fits c.args.totals.now c.requires.held

pub returns-in-Ok-clause-held : goal.returns-in-Ok-clause-held
returns-in-Ok-clause-held c =
    held_new c.args.job.now c.args.cells.now.items c.args.k c.args.body (subst IsCut c.cut.ensures c.lengths-lengths.ensures.within_limits)
    c.requires.within c.requires.nothing c.requires.fits c.args.totals.now c.add.new.self c.requires.held c.in-Ok.ensures.added
