-- Proofs of the goals of `TextList::len` (`text_list`).
use Rattle.std.proofs.Common.{arith, ap, length}
use Rattle.columns.proofs.Joined.{length-texts_from}
use Rattle.columns.proofs.text_list.TextList.len.Goals as goal

pub returns-clause-value : goal.returns-clause-value
returns-clause-value c = omega (arith, c.len.ensures, length-texts_from 0 c.self.inside.ends.items c.self.inside.joined.items, ap length c.self.view_is, c.self.inside.ends.ok.0)
