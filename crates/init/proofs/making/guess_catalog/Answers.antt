-- Proofs of the goals of `guess_catalog` (`making`).
use Rattle.std.specs.Prelude.{option_map}
use Rattle.init.specs.Guessing.{IsAskedOrHidden}
use Rattle.init.proofs.Saying.{unreported_asked, unreported_guess}
use Rattle.init.proofs.making.guess_catalog.Goals as goal

pub returns-in-Err-clause-refused : goal.returns-in-Err-clause-refused
returns-in-Err-clause-refused g c =
    unreported_guess (g.F.Folder.holds c.args.folder.now) (g.F.Listing.lists c.args.folder.now) (g.F.Listing.hides c.args.folder.now) c.args.directory.now (option_map (λ fact. fact.now) c.args.fact) c.in_ok-text.text c.in-Err.fault
    c.in_ok-text.ensures.guessable c.in-Err.ensures.refused

pub returns-in-Err-clause-unread : goal.returns-in-Err-clause-unread
returns-in-Err-clause-unread g c = unreported_asked (IsAskedOrHidden (g.F.Folder.asks c.args.folder.now) (g.F.Listing.hides c.args.folder.now) c.args.directory.now) c.in-Err.fault c.in-Err.ensures.refused
