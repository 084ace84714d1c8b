-- Which error codes each layer has.
use Rattle.std.specs.Prelude.{ℕ, ◌==◌, Bool, false, ◌&&◌, ◌||◌, nat_le, if◌then◌else◌, List, Option, Some, None, codes, bytes_eq}
use Rattle.refusals.specs.declared.layers.Layer.{Layer}
use Rattle.refusals.specs.declared.layers.Layer.TheVariants.{Catalog, Cut, Sql, Plan, Load, File, Work, Journal, Gather}

abbrev pub is_from_to : ℕ → ℕ → ℕ → Bool
is_from_to least most number = nat_le least number && nat_le number most

-- the codes that the page has
abbrev pub has_code : Layer → ℕ → Bool
has_code Catalog number = is_from_to 1 6 number
has_code Cut number = is_from_to 1 3 number
has_code Sql number = is_from_to 1 8 number
has_code Plan number = is_from_to 1 13 number
has_code Load number = is_from_to 1 9 number
has_code File number = is_from_to 1 4 number || number == 7
has_code Work number = is_from_to 1 5 number
has_code Journal number = is_from_to 12 16 number
has_code Gather number = is_from_to 1 10 number

-- the word in front of its error codes
abbrev pub word_of : Layer → List ℕ
word_of Catalog = codes "catalog"
word_of Cut = codes "cut"
word_of Sql = codes "sql"
word_of Plan = codes "plan"
word_of Load = codes "load"
word_of File = codes "file"
word_of Work = codes "work"
word_of Journal = codes "journal"
word_of Gather = codes "gather"

-- the layer that has the word
abbrev pub layer_of : List ℕ → Option Layer
layer_of word =
    if bytes_eq word (codes "catalog") then Some Catalog
    else if bytes_eq word (codes "cut") then Some Cut
    else if bytes_eq word (codes "sql") then Some Sql
    else if bytes_eq word (codes "plan") then Some Plan
    else if bytes_eq word (codes "load") then Some Load
    else if bytes_eq word (codes "file") then Some File
    else if bytes_eq word (codes "work") then Some Work
    else if bytes_eq word (codes "journal") then Some Journal
    else if bytes_eq word (codes "gather") then Some Gather
    else None

-- the layer that has the word has the code
abbrev pub is_code_of : Option Layer → ℕ → Bool
is_code_of (Some layer) number = has_code layer number
is_code_of None number = false

abbrev pub is_known : List ℕ → ℕ → Bool
is_known word number = is_code_of (layer_of word) number
