-- The dictionary that a block lends.
use Rattle.std.specs.Prelude.{◌≡◌, ℕ, ◌/◌, ◌≤◌, nat_lt, true, List, length, map, get_or}
use Rattle.std.specs.List.{list_all}
use Rattle.meaning.specs.declared.value.ColType.{ColType}
use Rattle.meaning.specs.declared.value.Value.{Value}
use Rattle.meaning.specs.declared.value.Value.TheVariants.{Null}
use Rattle.blocks.specs.Block.{Block, body_of}
use Rattle.blocks.specs.Plain.{is_values_form}
use Rattle.blocks.specs.Dictionary.{entries_of, codes_of}
use Rattle.bit_packing.specs.Bytes.{shorts}

-- the entries in ascending order, and for each row the code of its entry
pub record DictionarySpec : Type 0 where
  pub entries : List Value
  pub codes : List ℕ

-- those of a body
abbrev pub dictionary_of : ColType → ℕ → List ℕ → DictionarySpec
dictionary_of col_type rows body = record { entries = entries_of col_type rows body; codes = codes_of rows body }

abbrev pub dictionary_in : Block → DictionarySpec
dictionary_in b = dictionary_of b.col_type b.rows (body_of b)

-- for each row the entry at its code
abbrev pub coded_cells : DictionarySpec → List Value
coded_cells d = map (λ code. get_or d.entries code Null) d.codes

-- bytes that are `count` entries, and bytes that hold `rows` codes of them
pub record IsDictionaryOf (col_type : ColType) (count : ℕ) (entries : List ℕ) (rows : ℕ) (codes : List ℕ) : Type 0 where
  pub entries_form : is_values_form col_type count entries ≡ true
  pub codes_fit : rows ≤ length codes / 2
  pub codes_known : list_all (λ code. nat_lt code count) (shorts rows codes) ≡ true
