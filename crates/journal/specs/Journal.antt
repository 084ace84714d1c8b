-- Which bytes are a journal, and of which answers.
use Rattle.std.specs.Prelude.{◌≡◌, ◌≢◌, ◌⊎◌, ℕ, ◌+◌, ◌<◌, ◌≤◌, ◌^◌, List, [], ◌∷◌, ◌++◌, length, take, drop}
use Rattle.std.specs.List.{sum_by}
use Rattle.meaning.specs.Said.{Answer, Cell}
use Rattle.meaning.specs.declared.answer.Cell.TheVariants.{Nothing, One, Conflict}
use Rattle.meaning.specs.Gather.{joined}
use Rattle.disk.specs.Disk.{Synced, State}
use Rattle.wire.specs.Bytes.{number_bytes}
use Rattle.partial_codec.specs.Job.{JobSpec}
use Rattle.partial_codec.specs.Answer.{Spells}
use Rattle.gathering.specs.Gathering.{GatherSpec}

-- `XGJ1`
unfoldable pub journal_magic : List ℕ
journal_magic = 88 ∷ 71 ∷ 74 ∷ 49 ∷ []

-- what stands behind the gate of a record: the length of the answer's bytes, and these
unfoldable pub record_bytes : List ℕ → List ℕ
record_bytes spelling = number_bytes 4 (length spelling) ++ spelling

-- the most records that are read
unfoldable pub max_records : ℕ
max_records = 2 ^ 20

-- the bytes are a record with an open gate, which is any byte but 0
pub record IsRecord (job : JobSpec) (a : Answer) (bytes : List ℕ) : Type 0 where
  pub gate : ℕ
  pub is_open : gate ≢ 0
  pub spelling : List ℕ
  pub spells : Spells job spelling a
  pub short : length spelling < 2 ^ 32
  pub parts : bytes ≡ gate ∷ record_bytes spelling

-- the bytes are the records of these answers, one behind the other
abbrev pub AreRecords : JobSpec → List Answer → List ℕ → Type 0
AreRecords job [] bytes = bytes ≡ []
AreRecords job (a ∷ answers) bytes = (first : List ℕ) × (others : List ℕ) × IsRecord job a first × AreRecords job answers others × (bytes ≡ first ++ others)

-- the file begins with these bytes, and a closed gate is next
abbrev pub IsClosedBehind : List ℕ → List ℕ → Type 0
IsClosedBehind front file = (behind : List ℕ) × (file ≡ front ++ 0 ∷ behind)

-- the file is a journal of these answers, whatever stands behind its closed gate: the magic, the records, the gate
pub record IsJournal (job : JobSpec) (answers : List Answer) (file : List ℕ) : Type 0 where
  pub records : List ℕ
  pub are_records : AreRecords job answers records
  pub closed : IsClosedBehind (journal_magic ++ records) file

-- the file is a journal of answers that make up what the coordinator holds
pub record IsJournalOf (g : GatherSpec) (file : List ℕ) : Type 0 where
  pub answers : List Answer
  pub journal : IsJournal g.job answers file
  pub state : g.cells ≡ joined g.job.cut answers

-- the same of a journal of no more records than are read
pub record IsOpened (g : GatherSpec) (file : List ℕ) : Type 0 where
  pub answers : List Answer
  pub few : length answers ≤ max_records
  pub journal : IsJournal g.job answers file
  pub state : g.cells ≡ joined g.job.cut answers

-- ---- how many records a journal needs

-- one for an answer that is held for a fragment, two for a conflict
abbrev pub records_for : Cell → ℕ
records_for Nothing = 0
records_for (One body) = 1
records_for Conflict = 2

abbrev pub records_needed : List Cell → ℕ
records_needed cells = sum_by records_for cells

-- the file is a journal with no record too many
pub record IsLean (job : JobSpec) (file : List ℕ) : Type 0 where
  pub answers : List Answer
  pub journal : IsJournal job answers file
  pub few : length answers ≤ records_needed (joined job.cut answers)

-- ---- while a record is appended

-- a synced disk, on which a closed gate stands at the offset
pub record IsClosedAt (gate : ℕ) (s : State) : Type 0 where
  pub synced : s.unsynced ≡ Synced
  pub closed : IsClosedBehind (take gate s.reads) s.reads

-- the bytes of the file, but any byte for the gate at the offset, and any bytes behind the end
abbrev pub IsButGate : ℕ → List ℕ → List ℕ → Type 0
IsButGate gate file image = (byte : ℕ) × (behind : List ℕ) × (image ≡ take gate file ++ byte ∷ (drop (gate + 1) file ++ behind))

-- behind the front there is an open gate, with this record behind it
abbrev pub IsOpenBehind : List ℕ → List ℕ → List ℕ → Type 0
IsOpenBehind front record_with_gate file = (gate : ℕ) × (gate ≢ 0) × (behind : List ℕ) × (file ≡ front ++ gate ∷ (record_with_gate ++ behind))

-- the record counts, or it doesn't
abbrev pub IsWithOrWithout : List ℕ → List ℕ → List ℕ → Type 0
IsWithOrWithout front record_with_gate file = IsClosedBehind front file ⊎ IsOpenBehind front record_with_gate file
