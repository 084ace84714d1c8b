-- Which text has which tree, and where a refusal stands.
use Rattle.std.specs.Prelude.{◌≡◌, ◌⊎◌, ℕ, ◌-◌, ◌≤◌, ◌<◌, List, [], ◌∷◌, ◌++◌, length, drop, Result, Ok, Err, nat_le, if◌then◌else◌}
use Rattle.std.specs.Str.{IsUtf8}
use Rattle.meaning.specs.Limits.{max_query_bytes}
use Rattle.sql_reader.specs.declared.fault.SqlFault.{SqlFault}
use Rattle.sql_reader.specs.declared.fault.SqlFault.TheVariants as fault
use Rattle.sql_syntax.specs.declared.tree.Query.{Query}
use Rattle.sql_syntax.specs.Words.{lower}
use Rattle.sql_syntax.specs.Tokens as terminal
use Rattle.sql_syntax.specs.Tokens.{Terminal, Located, tokens_of, terminals}
use Rattle.sql_syntax.specs.Queries.{SpellsQuery, open_in_query, query_depth}
use Rattle.sql_syntax.specs.Canonical.{canonical}
use Rattle.sql_expressions.specs.declared.stop.Stop.{Stop}
use Rattle.sql_expressions.specs.declared.stop.Stop.TheVariants as stop
use Rattle.sql_reader.specs.Rules.{query_at, within}

-- the query is the syntax tree of the text
pub record IsTree (bs : List ℕ) (q : Query) : Type 0 where
  pub utf8 : IsUtf8 bs
  pub spells : SpellsQuery (terminals (tokens_of bs)) q

-- the tree is no deeper than 128, and no token of the text has more than 256 open
pub record IsShallow (bs : List ℕ) (q : Query) (tree : IsTree bs q) : Type 0 where
  pub deep : query_depth q ≤ 128
  pub opens : open_in_query tree.spells ≤ 256

-- neither the text nor its canonical text is too long
pub record IsShort (bs : List ℕ) (q : Query) : Type 0 where
  pub text : length bs ≤ max_query_bytes
  pub printed : length (canonical q) ≤ max_query_bytes

-- the query is the syntax tree of the text, and no limit is passed
pub record IsWithin (bs : List ℕ) (q : Query) : Type 0 where
  pub tree : IsTree bs q
  pub shallow : IsShallow bs q tree
  pub short : IsShort bs q

-- a call gives the query, unless memory runs out
abbrev pub GivesQuery : Query → Result Query SqlFault → Type 0
GivesQuery q (Ok r) = r ≡ q
GivesQuery q (Err fault.Memory) = Unit {0}
GivesQuery q (Err returned) = ⊥

-- ---- refusals

-- the refusal of a token at an offset where it isn't expected
abbrev pub refusal : Terminal → ℕ → SqlFault
refusal (terminal.keyword k) offset = fault.UnexpectedToken offset
refusal (terminal.name n) offset = fault.UnexpectedToken offset
refusal (terminal.integer n) offset = if nat_le n 9223372036854775807 then fault.UnexpectedToken offset else fault.IntegerOutOfRange offset
refusal (terminal.text t) offset = fault.UnexpectedToken offset
refusal (terminal.sign_is s) offset = fault.UnexpectedToken offset
refusal (terminal.left_out w) offset = fault.LeftOut offset (lower w)
refusal terminal.out_of_range offset = fault.IntegerOutOfRange offset
refusal terminal.not_closed offset = fault.TextNotClosed offset
refusal terminal.unknown offset = fault.UnknownCharacter offset

-- the refusal of the token at the front, or of the text's end
abbrev pub refusal_at : ℕ → List Located → SqlFault
refusal_at end [] = fault.UnexpectedToken end
refusal_at end (p ∷ ps) = refusal p.terminal p.offset

-- the refusal where reading stops: that of the token from which so many are left, or of the text's end
abbrev pub refusal_of : ℕ → List Located → Stop → SqlFault
refusal_of end ps stop.Memory = fault.Memory
refusal_of end ps stop.TooDeep = fault.TooDeep
refusal_of end ps (stop.At left) = refusal_at end (drop (length ps - left) ps)

-- reading the text from front to back stops, and this is the refusal where it does
pub record StopsAs (bs : List ℕ) (returned : SqlFault) : Type 0 where
  pub reason : Stop
  pub stops : query_at within (terminals (tokens_of bs)) ≡ Err reason
  pub reports : refusal_of (length bs) (tokens_of bs) reason ≡ returned

-- some query begins with these tokens
abbrev pub IsBeginning : List Terminal → Type 0
IsBeginning ts = (further : List Terminal) × (q : Query) × SpellsQuery (ts ++ further) q

-- no query goes on with the token at the front behind these, or, at the text's end, ends there
abbrev pub IsUnexpected : List Terminal → List Located → Type 0
IsUnexpected before [] = (q : Query) → SpellsQuery before q → ⊥
IsUnexpected before (p ∷ ps) = IsBeginning (before ++ p.terminal ∷ []) → ⊥

-- the refusal is that of the first token that isn't expected behind those before it, which begin a query; or of the text's end
pub record IsFirstUnexpected (end : ℕ) (ps : List Located) (returned : SqlFault) : Type 0 where
  pub front : List Located
  pub rest : List Located
  pub parts : ps ≡ front ++ rest
  pub begins : IsBeginning (terminals front)
  pub unexpected : IsUnexpected (terminals front) rest
  pub reports : refusal_at end rest ≡ returned

-- the text has no tree, or one that is too deep, or too many are open in it
abbrev pub HasNone : List ℕ → Type 0
HasNone bs = (q : Query) (tree : IsTree bs q) → IsShallow bs q tree → ⊥

-- where each refusal is returned
abbrev pub IsRefusal : List ℕ → SqlFault → Type 0
IsRefusal bs fault.Memory = Unit {0}
IsRefusal bs fault.TooLong = (max_query_bytes < length bs) ⊎ ((q : Query) × IsTree bs q × (max_query_bytes < length (canonical q)))
IsRefusal bs fault.NotUtf8 = (length bs ≤ max_query_bytes) × (IsUtf8 bs → ⊥)
IsRefusal bs fault.TooDeep = (length bs ≤ max_query_bytes) × IsUtf8 bs × HasNone bs × StopsAs bs fault.TooDeep
IsRefusal bs returned = (length bs ≤ max_query_bytes) × IsUtf8 bs × IsFirstUnexpected (length bs) (tokens_of bs) returned × StopsAs bs returned
