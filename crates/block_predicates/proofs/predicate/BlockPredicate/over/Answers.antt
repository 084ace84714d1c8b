-- Proofs of the goals of `BlockPredicate::over` (`predicate`).
use Rattle.std.proofs.Common.{sym, subst}
use Rattle.blocks.specs.Block.{Block}
use Rattle.block_predicates.specs.Predicate.{IsPredicateOf, predicate_of}
use Rattle.block_predicates.proofs.RowMarks.{predicate_is}
use Rattle.block_predicates.proofs.predicate.BlockPredicate.over.Goals as goal

pub returns-clause-of : goal.returns-clause-of
returns-clause-of c = λ conjunct are.
    subst (λ (b : Block). IsPredicateOf conjunct c.args.block.now (predicate_of b c.args.marks.now)) (sym c.copy.ensures) (predicate_is conjunct c.args.block.now c.args.marks.now are)
