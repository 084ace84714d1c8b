-- Proofs of the goals of `BlockPredicate::new` (`predicate`).
use Rattle.std.proofs.Common.{◌≡◌, ℕ, Option, false, sym, subst}
use Rattle.std.specs.Prelude.{IfSome, IsNone}
use Rattle.blocks.specs.Block.{Block}
use Rattle.pushdown.specs.FactColumn.{StandsOn}
use Rattle.block_predicates.specs.declared.marks.EntryMarks.{EntryMarks}
use Rattle.block_predicates.specs.Entries.{has_entries}
use Rattle.block_predicates.specs.Marks.{AreMarksFor}
use Rattle.block_predicates.specs.Predicate.{IsPredicateOf, predicate_of}
use Rattle.block_predicates.proofs.RowMarks.{predicate_is}
use Rattle.block_predicates.proofs.predicate.BlockPredicate.new.Goals as goal

pub returns-in-Some-clause-some : goal.returns-in-Some-clause-some
returns-in-Some-clause-some c =
    let e = c.args.conjunct.now in
    let b = c.args.block.now in
    let are = subst (λ (found : Option EntryMarks). IfSome found (AreMarksFor e b)) c.in-Some.is c.in_ok-marks.ensures.some in
    subst (λ (x : Block). IsPredicateOf e b (predicate_of x c.in-Some.marks)) (sym c.copy.ensures) (predicate_is e b c.in-Some.marks are)

pub returns-in-None-clause-none : goal.returns-in-None-clause-none
returns-in-None-clause-none c =
    subst (λ (found : Option EntryMarks). IsNone found → (column : ℕ) → StandsOn column c.args.conjunct.now → has_entries c.args.block.now.kind ≡ false) c.in-None.is c.in_ok-marks.ensures.none
