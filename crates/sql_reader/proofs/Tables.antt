-- Tables read one behind the other.
use Rattle.std.proofs.Common.{◌≡◌, ℕ, zero, suc, ◌<◌, true, List, length, Some, Result, Ok, Err, refl, sym, ◌∙◌, arith}
use Rattle.meaning.specs.declared.plan.JoinType.{JoinType}
use Rattle.meaning.specs.declared.plan.JoinType.TheVariants as join_type
use Rattle.sql_syntax.specs.Joins.{condition_of, kind_of}
use Rattle.sql_syntax.specs.declared.token.Lexeme.{Lexeme}
use Rattle.sql_syntax.specs.declared.tree.Expr.{Expr}
use Rattle.sql_syntax.specs.declared.tree.Table.{Table}
use Rattle.sql_syntax.specs.declared.tree.Joined.{Joined}
use Rattle.sql_syntax.specs.Tokens.{Terminal}
use Rattle.sql_expressions.specs.declared.stop.Stop.{Stop}
use Rattle.sql_expressions.specs.Rules.{◌>>=◌, terms, begins_other}
use Rattle.sql_reader.specs.Rules.{within, table_at, put_other, more_others, tables_at}
use Rattle.sql_expressions.proofs.Chains.{length_terms}

pub condition_is : (by : JoinType) (e : Expr) → condition_of (kind_of by e) ≡ Some e
condition_is join_type.Inner e = refl
condition_is join_type.Left e = refl

-- the first table and those behind it
abbrev pub with_first : Table → Result (List Joined × List Terminal) Stop → Result ((Table × List Joined) × List Terminal) Stop
with_first first read = read >>= (λ o. Ok ((first, o.0), o.1))

-- what is read behind the tables so far is what is read of all
abbrev pub TablesLeft : List Joined → List Lexeme → Table → List Joined → List Lexeme → Type 0
TablesLeft old all first now rest = (length rest < length all) × (m : ℕ) × (length rest < m) × (with_first first (more_others within m now (terms rest)) ≡ tables_at within old (terms all))

pub tables_begin : (old : List Joined) (all rest : List Lexeme) (first : Table) → table_at (terms all) ≡ Ok (first, terms rest) → length rest < length all → TablesLeft old all first old rest
tables_begin old all rest first reads h =
    let same : length (terms rest) ≡ length rest = length_terms rest in
    let enough : length rest < suc (length (terms rest)) = omega arith in
    (h, suc (length (terms rest)), enough, rw reads refl)

step : (m : ℕ) (first : Table) (now next : List Joined) (rest behind : List Terminal) (all : Result ((Table × List Joined) × List Terminal) Stop) (len : ℕ) → len < m → begins_other rest ≡ true → put_other within now rest ≡ Ok (next, behind)
    → with_first first (more_others within m now rest) ≡ all → (m2 : ℕ) × (m ≡ suc m2) × (with_first first (more_others within m2 next behind) ≡ all)
step zero first now next rest behind all len h begins put whole = absurd (omega arith)
step (suc m) first now next rest behind all len h begins put whole = (m, refl, same ∙ whole)
  where
    same : with_first first (more_others within m next behind) ≡ with_first first (more_others within (suc m) now rest)
    same = sym (rw (begins, put) refl)

pub tables_go_on : (old : List Joined) (all : List Lexeme) (first : Table) (now next : List Joined) (rest behind : List Lexeme) → TablesLeft old all first now rest → begins_other (terms rest) ≡ true → put_other within now (terms rest) ≡ Ok (next, terms behind)
    → length behind < length rest → TablesLeft old all first next behind
tables_go_on old all first now next rest behind (h, m, enough, whole) begins put fewer =
    let s = step m first now next (terms rest) (terms behind) (tables_at within old (terms all)) (length rest) enough begins put whole in
    let steps : m ≡ suc s.0 = s.1 in
    let left : length behind < length all = omega arith in
    let some : length behind < s.0 = omega arith in
    (left, s.0, some, s.2)

pub tables_stop : (m : ℕ) (first : Table) (now : List Joined) (rest : List Terminal) (all : Result ((Table × List Joined) × List Terminal) Stop) (len : ℕ) → len < m → begins_other rest ≡ true → with_first first (more_others within m now rest) ≡ all → (reason : Stop) → put_other within now rest ≡ Err reason → all ≡ Err reason
tables_stop zero first now rest all len h begins whole reason stops = absurd (omega arith)
tables_stop (suc m) first now rest all len h begins whole reason stops = sym whole ∙ (rw (begins, stops) refl)
