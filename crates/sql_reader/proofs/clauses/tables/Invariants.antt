-- Loop invariants of `tables`.
use Rattle.std.proofs.Common.{length}
use Rattle.sql_reader.proofs.Tables.{TablesLeft}
use Rattle.sql_reader.proofs.clauses.tables.Given as goal

abbrev pub invariant-loop-alloc : goal.invariant-loop-alloc
invariant-loop-alloc l = TablesLeft l.fn.others l.fn.lexemes l.first l.others l.rest

abbrev pub decreases-loop-alloc : goal.decreases-loop-alloc
decreases-loop-alloc l = length l.rest
