-- The reserved words.
use Rattle.std.specs.Prelude.{ℕ, Bool, List, [], ◌∷◌, map, Option, find, codes, bytes_eq}
use Rattle.std.specs.List.{list_any}
use Rattle.std.specs.Char.{to_ascii_lowercase}
use Rattle.sql_syntax.specs.declared.keyword.Keyword.{Keyword}
use Rattle.sql_syntax.specs.declared.keyword.Keyword.TheVariants as keyword

-- the text in lower case
abbrev pub lower : List ℕ → List ℕ
lower = map to_ascii_lowercase

-- the same word, whatever the case
abbrev pub same_word : List ℕ → List ℕ → Bool
same_word left right = bytes_eq (lower left) (lower right)

-- a keyword in capitals
abbrev pub spelling_of : Keyword → List ℕ
spelling_of keyword.And = codes "AND"
spelling_of keyword.As = codes "AS"
spelling_of keyword.Asc = codes "ASC"
spelling_of keyword.Avg = codes "AVG"
spelling_of keyword.Between = codes "BETWEEN"
spelling_of keyword.By = codes "BY"
spelling_of keyword.Case = codes "CASE"
spelling_of keyword.Coalesce = codes "COALESCE"
spelling_of keyword.Count = codes "COUNT"
spelling_of keyword.Desc = codes "DESC"
spelling_of keyword.Distinct = codes "DISTINCT"
spelling_of keyword.Else = codes "ELSE"
spelling_of keyword.End = codes "END"
spelling_of keyword.From = codes "FROM"
spelling_of keyword.Group = codes "GROUP"
spelling_of keyword.Having = codes "HAVING"
spelling_of keyword.In = codes "IN"
spelling_of keyword.Inner = codes "INNER"
spelling_of keyword.Is = codes "IS"
spelling_of keyword.Join = codes "JOIN"
spelling_of keyword.Left = codes "LEFT"
spelling_of keyword.Like = codes "LIKE"
spelling_of keyword.Limit = codes "LIMIT"
spelling_of keyword.Max = codes "MAX"
spelling_of keyword.Min = codes "MIN"
spelling_of keyword.Not = codes "NOT"
spelling_of keyword.Null = codes "NULL"
spelling_of keyword.On = codes "ON"
spelling_of keyword.Or = codes "OR"
spelling_of keyword.Order = codes "ORDER"
spelling_of keyword.Outer = codes "OUTER"
spelling_of keyword.Select = codes "SELECT"
spelling_of keyword.Sum = codes "SUM"
spelling_of keyword.Then = codes "THEN"
spelling_of keyword.When = codes "WHEN"
spelling_of keyword.Where = codes "WHERE"

-- all keywords
abbrev pub keywords : List Keyword
keywords = keyword.And ∷ keyword.As ∷ keyword.Asc ∷ keyword.Avg ∷ keyword.Between ∷ keyword.By
    ∷ keyword.Case ∷ keyword.Coalesce ∷ keyword.Count ∷ keyword.Desc ∷ keyword.Distinct ∷ keyword.Else
    ∷ keyword.End ∷ keyword.From ∷ keyword.Group ∷ keyword.Having ∷ keyword.In ∷ keyword.Inner ∷ keyword.Is
    ∷ keyword.Join ∷ keyword.Left ∷ keyword.Like ∷ keyword.Limit ∷ keyword.Max ∷ keyword.Min
    ∷ keyword.Not ∷ keyword.Null ∷ keyword.On ∷ keyword.Or ∷ keyword.Order ∷ keyword.Outer
    ∷ keyword.Select ∷ keyword.Sum ∷ keyword.Then ∷ keyword.When ∷ keyword.Where ∷ []

-- the keyword that a word is, in whatever case
unfoldable pub keyword_of : List ℕ → Option Keyword
keyword_of word = find (λ k. same_word (spelling_of k) word) keywords

-- words that are no keywords and no names either
abbrev pub left_out_words : List (List ℕ)
left_out_words = codes "ALL" ∷ codes "ANY" ∷ codes "CROSS" ∷ codes "ESCAPE"
    ∷ codes "EXCEPT" ∷ codes "EXISTS" ∷ codes "FETCH" ∷ codes "FULL" ∷ codes "INTERSECT"
    ∷ codes "NATURAL" ∷ codes "NULLS" ∷ codes "OFFSET" ∷ codes "OVER" ∷ codes "RIGHT"
    ∷ codes "ROLLUP" ∷ codes "UNION" ∷ codes "USING" ∷ codes "WINDOW" ∷ codes "WITH" ∷ []

-- the word is one of them, in whatever case
unfoldable pub is_left_out : List ℕ → Bool
is_left_out word = list_any (λ left_out. same_word left_out word) left_out_words
