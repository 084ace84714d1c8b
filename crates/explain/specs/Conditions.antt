-- The lines of a plan's conditions.
use Rattle.std.specs.Prelude.{◌≡◌, ℕ, zero, suc, ◌+◌, nat_lt, Bool, if◌then◌else◌, List, [], ◌∷◌, ◌++◌, codes, decimal}
use Rattle.meaning.specs.declared.expr.Expr.{Expr}
use Rattle.explain.specs.Places.{AreAhead, IsPlaceOf}
use Rattle.explain.specs.declared.placing.Place.{Place}
use Rattle.explain.specs.declared.placing.Place.TheVariants as place

-- right at the lookup, or behind a condition that is tested on no dimension
abbrev pub marks_words : Bool → List ℕ
marks_words leads = if leads then codes ", before the join" else codes ", applied after the conditions above"

-- the words for a place; whose rows or blocks they are is said by a name
abbrev pub IsPlaceText : Place → Bool → List ℕ → Type 0
IsPlaceText (place.Dimension join) leads text = (table : List ℕ) × (text ≡ codes "once for each row of " ++ (table ++ marks_words leads))
IsPlaceText (place.Blocks column) leads text = (name : List ℕ) × (text ≡ codes "once for each dictionary entry or run of " ++ (name ++ codes ", else row by row"))
IsPlaceText place.Rows leads text = text ≡ codes "row by row"

-- so many steps of two blanks
unfoldable pub blanks_text : ℕ → List ℕ
blanks_text zero = []
blanks_text (suc depth) = codes "  " ++ blanks_text depth

-- a line with these blanks, the condition's number, some text for the condition, and its place
pub record IsCondition (blanks : List ℕ) (joins number : ℕ) (leads : Bool) (condition : Expr) (line : List ℕ) : Type 0 where
  pub place : Place
  pub is_place : IsPlaceOf joins condition place
  pub words : List ℕ
  pub words_are : IsPlaceText place leads words
  pub text : List ℕ
  pub is_line : line ≡ blanks ++ (decimal number ++ (codes ". " ++ (text ++ (codes ": " ++ (words ++ codes "\n")))))

-- a line for each condition, from this index on; the first of all conditions are tested at their lookup
abbrev pub AreLines : List ℕ → ℕ → ℕ → ℕ → List Expr → List ℕ → Type 0
AreLines blanks joins leading index [] text = text ≡ []
AreLines blanks joins leading index (condition ∷ conditions) text = (line rest : List ℕ) × (text ≡ line ++ rest)
    × IsCondition blanks joins (index + 1) (nat_lt index leading) condition line × AreLines blanks joins leading (index + 1) conditions rest

abbrev pub AreConditions : List ℕ → ℕ → List Expr → List ℕ → Type 0
AreConditions blanks joins conditions text = (leading : ℕ) × AreAhead joins conditions leading × AreLines blanks joins leading 0 conditions text

-- they were written behind a text
abbrev pub AddsConditions : List ℕ → ℕ → List Expr → List ℕ → List ℕ → Type 0
AddsConditions blanks joins conditions before after = (lines : List ℕ) × (after ≡ before ++ lines) × AreConditions blanks joins conditions lines
