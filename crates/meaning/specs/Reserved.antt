-- The words of queries that can't be names.
use Rattle.std.specs.Prelude.{ℕ, Bool, ◌||◌, List, [], ◌∷◌, codes, bytes_eq}
use Rattle.std.specs.List.{list_any}

-- the words of the grammar of queries
abbrev pub grammar_words : List (List ℕ)
grammar_words =
    codes "and" ∷ codes "as" ∷ codes "asc" ∷ codes "avg" ∷ codes "between" ∷ codes "by" ∷ codes "case"
    ∷ codes "coalesce" ∷ codes "count" ∷ codes "desc" ∷ codes "distinct" ∷ codes "else" ∷ codes "end" ∷ codes "from"
    ∷ codes "group" ∷ codes "having" ∷ codes "in" ∷ codes "inner" ∷ codes "is" ∷ codes "join"
    ∷ codes "left" ∷ codes "like" ∷ codes "limit" ∷ codes "max" ∷ codes "min" ∷ codes "not" ∷ codes "null" ∷ codes "on"
    ∷ codes "or" ∷ codes "order" ∷ codes "outer" ∷ codes "select" ∷ codes "sum" ∷ codes "then" ∷ codes "when"
    ∷ codes "where" ∷ []

-- the words of SQL that queries leave out
abbrev pub left_out_words : List (List ℕ)
left_out_words =
    codes "all" ∷ codes "any" ∷ codes "cross" ∷ codes "escape" ∷ codes "except"
    ∷ codes "exists" ∷ codes "fetch" ∷ codes "full" ∷ codes "intersect" ∷ codes "natural"
    ∷ codes "nulls" ∷ codes "offset" ∷ codes "over" ∷ codes "right" ∷ codes "rollup"
    ∷ codes "union" ∷ codes "using" ∷ codes "window" ∷ codes "with" ∷ []

-- the word is one of these
abbrev pub is_one_of : List (List ℕ) → List ℕ → Bool
is_one_of words word = list_any (bytes_eq word) words

-- the word can't be a name
abbrev pub is_reserved : List ℕ → Bool
is_reserved word = is_one_of grammar_words word || is_one_of left_out_words word
