-- Columns and the rows in them.
use Rattle.std.proofs.Common.{◌≡◌, ℕ, ◌+◌, List, [], ◌∷◌, map, refl, ap}
use Rattle.std.specs.List.{enumerate_from}
use Rattle.meaning.specs.declared.catalog.Column.{Column}
use Rattle.columns.specs.Column.{ColumnSpec}
use Rattle.columns.specs.Rows.{column_of, columns_of}
use Rattle.loader.specs.Columns.{no_rows}

-- columns of no rows
numbered_new : (n : ℕ) (declared : List Column) → map no_rows declared ≡ map (column_of []) (enumerate_from n declared)
numbered_new n [] = refl
numbered_new n (c ∷ declared) = ap (λ (cs : List ColumnSpec). no_rows c ∷ cs) (numbered_new (n + 1) declared)

pub no_rows_of : (declared : List Column) → map no_rows declared ≡ columns_of declared []
no_rows_of declared = numbered_new 0 declared
