-- Writing tokens one behind the other.
use Rattle.std.specs.Prelude.{ℕ, Bool, ◌||◌, if◌then◌else◌, List, [], ◌∷◌, ◌++◌, flat_map, codes, string_bytes}
use Rattle.sql_syntax.specs.declared.printer.Printer.{Printer}
use Rattle.sql_syntax.specs.declared.keyword.Keyword.TheVariants as keyword
use Rattle.sql_syntax.specs.declared.token.Sign.TheVariants as sign
use Rattle.sql_syntax.specs.declared.tree.Aggregate.{Aggregate}
use Rattle.sql_syntax.specs.declared.tree.Item.{Item}
use Rattle.sql_syntax.specs.declared.tree.Joined.{Joined}
use Rattle.sql_syntax.specs.declared.tree.OrderKey.{OrderKey}
use Rattle.sql_syntax.specs.declared.tree.Query.{Query}
use Rattle.sql_syntax.specs.Tokens.{Terminal}
use Rattle.sql_syntax.specs.Phrases.{word, mark, aggregate_word, is_distinct, distinct_if}
use Rattle.sql_syntax.specs.CanonicalTokens.{Printed, free}
use Rattle.sql_syntax.specs.Queries.{item_tokens, key_tokens, other_tokens, table_tokens, others_tokens_of, clause_tokens, groups_tokens_of, order_tokens_of, limit_tokens_of, token_text, ends_operand, hugs_left, hugs_right}

-- what was written, whether it ends an operand, and whether no blank may follow
pub record Written : Type 0 where
  pub bytes : List ℕ
  pub operand : Bool
  pub hugs : Bool

abbrev pub written : Printer → Written
written p = record { bytes = string_bytes p.out; operand = p.operand; hugs = p.hugs }

-- the blank before a token
abbrev pub blank_before : Bool → List ℕ
blank_before hugs = if hugs then [] else codes " "

-- one token more
abbrev pub with_token : Written → Terminal → Written
with_token w t = record {
  bytes = w.bytes ++ (blank_before (w.hugs || hugs_left t) ++ token_text t);
  operand = ends_operand t;
  hugs = hugs_right w.operand t;
}

-- tokens more
abbrev pub with_tokens : Written → List Terminal → Written
with_tokens w [] = w
with_tokens w (t ∷ ts) = with_tokens (with_token w t) ts

-- each expression behind a comma
abbrev pub behind_commas : List Printed → List Terminal
behind_commas = flat_map (λ p. mark sign.Comma ∷ free p)

-- items behind commas, and keys
abbrev pub more_items : List Item → List Terminal
more_items = flat_map (λ item. mark sign.Comma ∷ item_tokens item)

abbrev pub more_keys : List OrderKey → List Terminal
more_keys = flat_map (λ key. mark sign.Comma ∷ key_tokens key)

-- a further table, with its condition
abbrev pub joined_tokens : Joined → List Terminal
joined_tokens j = other_tokens j.kind j.table []

-- an aggregate before its argument
abbrev pub aggregate_tokens : Aggregate → List Terminal
aggregate_tokens k = word (aggregate_word k) ∷ mark sign.Open ∷ distinct_if (is_distinct k)

-- ORDER BY and LIMIT
abbrev pub end_tokens : Query → List Terminal
end_tokens q = order_tokens_of q.order_by ++ limit_tokens_of q.limit

-- all behind the tables
abbrev pub condition_tokens : Query → List Terminal
condition_tokens q = clause_tokens keyword.Where q.filter ++ (groups_tokens_of q.group_by ++ (clause_tokens keyword.Having q.having ++ end_tokens q))

-- all behind the items
abbrev pub source_tokens : Query → List Terminal
source_tokens q = word keyword.From ∷ table_tokens q.source.first ++ (others_tokens_of q.source.others ++ condition_tokens q)
