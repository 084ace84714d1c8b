-- The records of a CSV file, and those that a reader has yet to give.
use Rattle.std.specs.Prelude.{◌≡◌, ℕ, Bool, true, false, List, [], ◌∷◌, Option, Some}
use Rattle.csv.specs.Reading.{default_config, records, strip_bom, AreRecords, Ready, source_of, reader_config, reader_state, reader_trim, is_flexible}
use Rattle.csv.specs.declared.reader.Reader.{Reader}
use Rattle.csv.specs.declared.reader.Trim.TheVariants as trim
use Rattle.meaning.specs.Records.{Record}

-- the records of bytes, behind one byte order mark if they have it in front
abbrev pub csv_records : List ℕ → List Record
csv_records bytes = records default_config (strip_bom bytes)

-- these records, and no more, are still to come from a reader that takes records as they are
pub record IsLeft {R : Type 0} (known : R → Option (List ℕ)) (s : Reader R) (rest : List Record) : Type 0 where
  pub config : reader_config s ≡ default_config
  pub untrimmed : reader_trim s ≡ trim.None
  pub flexible : is_flexible s ≡ true
  pub ready : Ready s
  pub bytes : List ℕ
  pub source : source_of known s ≡ Some bytes
  pub rows : AreRecords default_config (reader_state s) bytes rest

-- a read gave the next of the records, or there was none
abbrev pub TakesNext : {R : Type 0} → (R → Option (List ℕ)) → Reader R → List Record → Bool → Record → Type 0
TakesNext known after rest true fields = (others : List Record) × (rest ≡ fields ∷ others) × IsLeft known after others
TakesNext known after rest false fields = rest ≡ []
