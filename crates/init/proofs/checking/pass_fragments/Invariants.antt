-- Loop invariants of `pass_fragments` (`checking`).
use Rattle.std.proofs.Common.{List, length}
use Rattle.std.specs.Prelude.{Result}
use Rattle.meaning.specs.declared.table.TableFault.{TableFault}
use Rattle.columns.specs.Column.{ColumnSpec}
use Rattle.loader.specs.Handing.{IsToCome, lengths_ahead}
use Rattle.loader.proofs.Handing.{IsHanded}
use Rattle.init.proofs.checking.pass_fragments.Given as goal

abbrev pub invariant-loop-fragment : goal.invariant-loop-fragment
invariant-loop-fragment g l = (meant : Result (List (List ColumnSpec)) TableFault) → IsToCome g.R.Read.remaining l.fn.reader meant → (done : List (List ColumnSpec)) × IsHanded g.R.Read.remaining meant done l.reader

abbrev pub decreases-loop-fragment : goal.decreases-loop-fragment
decreases-loop-fragment g l = length (lengths_ahead l.reader)
