-- What is meant at each position of a batch.
use Rattle.std.specs.Prelude.{ℕ, List, [], get_or}
use Rattle.meaning.specs.declared.outcome.Outcome.{Outcome}
use Rattle.meaning.specs.declared.expr.Expr.{Expr}
use Rattle.meaning.specs.declared.joined_row.JoinedRow.{JoinedRow}
use Rattle.meaning.specs.Expr.{eval}

-- the row at a position
abbrev pub row_at : List JoinedRow → ℕ → JoinedRow
row_at rows i = get_or rows i (record { fact = []; joins = []; key = []; aggregates = [] })

-- what the expression gives on the row there
abbrev pub meant_at : Expr → List JoinedRow → ℕ → Outcome
meant_at e rows i = eval e (row_at rows i)
