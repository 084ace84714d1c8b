-- Proofs of the goals of `pieces_between` (`explaining`).
use Rattle.std.proofs.Common.{rules, arith, ◌==◌, not, length}
use Rattle.std.proofs.lemmas.Iterator.Consumers.{YieldsList-from_filter, map_from_collect}
use Rattle.std.proofs.lemmas.Iterator.Splits.{YieldsList-from_str_split}
use borrow.Author.Tests.{tests}
use Rattle.tools.proofs.explaining.pieces_between.Goals as goal

pub returns : goal.returns
returns c =
    map_from_collect _ c.collect.ensures.ran
    (YieldsList-from_filter _ (λ word. not (length word == 0))
    (YieldsList-from_str_split 32 c.args.line.now (omega arith) (search rules) (search rules) (search rules))
    c.filter.ensures.closure (λ x b q k. search (rules, tests)))
