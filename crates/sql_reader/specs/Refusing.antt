-- What is returned where reading stops.
use Rattle.std.specs.Prelude.{◌≡◌, ℕ, ◌≤◌, ◌<◌, List, length, Result, Ok, Err}
use Rattle.meaning.specs.Limits.{max_query_bytes}
use Rattle.sql_syntax.specs.declared.tree.Query.{Query}
use Rattle.sql_syntax.specs.Tokens.{Located, terminals}
use Rattle.sql_syntax.specs.Canonical.{canonical}
use Rattle.sql_reader.specs.declared.fault.SqlFault.{SqlFault}
use Rattle.sql_reader.specs.declared.fault.SqlFault.TheVariants as fault
use Rattle.sql_expressions.specs.declared.stop.Stop.{Stop}
use Rattle.sql_reader.specs.Grammar.{refusal_of}
use Rattle.sql_reader.specs.Rules.{query_at, within}

-- The refusal that is returned is the one that is meant, unless memory ran out.
abbrev pub Reports : SqlFault → SqlFault → Type 0
Reports fault.Memory meant = Unit {0}
Reports returned meant = meant ≡ returned

-- A query is kept where its canonical text isn't too long, unless memory runs out.
abbrev pub IsKept : Query → Result Query SqlFault → Type 0
IsKept q (Ok r) = (r ≡ q) × (length (canonical q) ≤ max_query_bytes)
IsKept q (Err fault.Memory) = Unit {0}
IsKept q (Err fault.TooLong) = max_query_bytes < length (canonical q)
IsKept q (Err returned) = ⊥

-- why the tokens of a text that ends there aren't read
pub data Refuses (end : ℕ) (ps : List Located) : SqlFault → Type 0 where
  no_memory : Refuses end ps fault.Memory
  no_query : (reason : Stop) (returned : SqlFault) → query_at within (terminals ps) ≡ Err reason → refusal_of end ps reason ≡ returned → Refuses end ps returned
  too_long : (q : Query) → query_at within (terminals ps) ≡ Ok q → max_query_bytes < length (canonical q) → Refuses end ps fault.TooLong

-- what reading the tokens of a text that ends there gives
abbrev pub IsAnswer : ℕ → List Located → Result Query SqlFault → Type 0
IsAnswer end ps (Ok q) = (query_at within (terminals ps) ≡ Ok q) × (length (canonical q) ≤ max_query_bytes)
IsAnswer end ps (Err returned) = Refuses end ps returned
