-- The canonical text of a query.
use Rattle.std.specs.Prelude.{ℕ, List}
use Rattle.sql_syntax.specs.declared.tree.Query.{Query}
use Rattle.sql_syntax.specs.Queries.{query_tokens, text_of}

-- the text of its canonical tokens
unfoldable pub canonical : Query → List ℕ
canonical q = text_of (query_tokens q)
