-- Loop invariants of `add_fragments` (`fact`).
use Rattle.std.proofs.Common.{◌≡◌, List, length}
use Rattle.std.specs.Prelude.{Result}
use Rattle.meaning.specs.declared.table.TableFault.{TableFault}
use Rattle.columns.specs.Column.{ColumnSpec}
use Rattle.loader.specs.Handing.{IsToCome, declared_in, lengths_ahead}
use Rattle.loader.proofs.Handing.{IsHanded}
use Rattle.loader.proofs.Shapes.{AreShapedSoFar}
use Rattle.loader.proofs.fact.add_fragments.Given as goal

abbrev pub invariant-loop-fragment : goal.invariant-loop-fragment
invariant-loop-fragment g l = (declared_in l.reader ≡ declared_in l.fn.reader) × AreShapedSoFar (declared_in l.fn.reader) (lengths_ahead l.fn.reader) (lengths_ahead l.reader) l.fragments.items
    × ((meant : Result (List (List ColumnSpec)) TableFault) → IsToCome g.R.Read.remaining l.fn.reader meant → IsHanded g.R.Read.remaining meant l.fragments.items l.reader)

abbrev pub decreases-loop-fragment : goal.decreases-loop-fragment
decreases-loop-fragment g l = length (lengths_ahead l.reader)
