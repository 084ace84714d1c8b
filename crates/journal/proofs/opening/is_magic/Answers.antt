-- Proofs of the goals of `is_magic` (`opening`).
use Rattle.std.proofs.Common.{◌≡◌, length, rules}
use Rattle.journal.specs.Journal.{journal_magic}
use Rattle.journal.proofs.Files.{is_front, no_front}
use Rattle.journal.proofs.opening.is_magic.Goals as goal

pub returns-in-Ok-clause-yes : goal.returns-in-Ok-clause-yes
unfolding journal_magic
returns-in-Ok-clause-yes c same =
    let four : length c.args.front.now ≡ 4 = search rules in
    is_front c.args.front.now four _ c.fits-front c.in-Ok.ensures

pub returns-in-Err-clause-no : goal.returns-in-Err-clause-no
unfolding journal_magic
returns-in-Err-clause-no c same = no_front c.args.front.now _ c.in-Err.ensures
