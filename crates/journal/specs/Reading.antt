-- How the records of a journal are read.
use Rattle.std.specs.Prelude.{◌≡◌, ℕ, ◌+◌, ◌<◌, ◌≤◌, ◌^◌, List, [], ◌++◌, length, drop, Option, Some, None, ⊤}
use Rattle.meaning.specs.Said.{Answer}
use Rattle.meaning.specs.Gather.{joined}
use Rattle.disk.specs.Disk.{DiskSpec, IsHonest, IsImage, LeavesOnly}
use Rattle.partial_codec.specs.Job.{JobSpec}
use Rattle.partial_codec.specs.Answer.{Spells}
use Rattle.gathering.specs.Gathering.{GatherSpec, cells_with}
use Rattle.journal.specs.Journal.{IsRecord, AreRecords, IsClosedBehind, journal_magic, max_records, record_bytes}

-- ---- the disk, while it is read

-- a crash at any moment leaves what it could leave before, and reads give what they gave
pub record OnlyReads (old new : DiskSpec) : Type 0 where
  pub honest : new.is_honest ≡ old.is_honest
  pub same : IsHonest old → new.now ≡ old.now
  pub any_moment : IsHonest old → LeavesOnly old new (IsImage old.now)

-- no fault was counted
abbrev pub CountsNothing : DiskSpec → DiskSpec → Type 0
CountsNothing old new = (new.failures ≡ old.failures) × (new.fulls ≡ old.fulls)

-- what reads give from an offset on
abbrev pub from_offset : ℕ → DiskSpec → List ℕ
from_offset offset d = drop offset d.now.reads

-- ---- what is read

-- so many bytes from an offset on
pub record HasBytes (at count end : ℕ) (d : DiskSpec) (bytes : List ℕ) : Type 0 where
  pub long : length bytes ≡ count
  pub within : at + count ≤ end
  pub read : IsHonest d → from_offset at d ≡ bytes ++ from_offset (at + count) d

-- an answer's bytes behind their length, which stands at an offset
pub record HasSpelling (at end : ℕ) (d : DiskSpec) (spelling : List ℕ) : Type 0 where
  pub short : length spelling < 2 ^ 32
  pub within : at + 4 + length spelling ≤ end
  pub read : IsHonest d → from_offset at d ≡ record_bytes spelling ++ from_offset (at + 4 + length spelling) d

-- no answer's bytes stand at the front, behind their length
abbrev pub HasNoSpelling : List ℕ → Type 0
HasNoSpelling bytes = (spelling behind : List ℕ) → length spelling < 2 ^ 32 → bytes ≡ record_bytes spelling ++ behind → ⊥

-- the answer that the bytes spell is joined
pub record TakesSpelling (old new : GatherSpec) (spelling : List ℕ) : Type 0 where
  pub answer : Answer
  pub spells : Spells old.job spelling answer
  pub cells : new.cells ≡ cells_with old.cells answer

-- records of these answers, a closed gate, and whatever stands behind it
pub record AreClosedRecords (job : JobSpec) (answers : List Answer) (bytes : List ℕ) : Type 0 where
  pub records : List ℕ
  pub are_records : AreRecords job answers records
  pub closed : IsClosedBehind records bytes

-- the bytes are no records of so few answers with a closed gate behind them
abbrev pub IsNoJournal : JobSpec → List ℕ → Type 0
IsNoJournal job bytes = (answers : List Answer) → length answers ≤ max_records → AreClosedRecords job answers bytes → ⊥

-- the answer of the record at the front was joined, behind which these bytes stand; or a closed gate stands there, and
-- nothing has changed
abbrev pub HasTaken : GatherSpec → GatherSpec → List ℕ → Option (List ℕ) → Type 0
HasTaken old new bytes None = (new.cells ≡ old.cells) × IsClosedBehind [] bytes
HasTaken old new bytes (Some rest) = (a : Answer) × (first : List ℕ) × IsRecord old.job a first × (bytes ≡ first ++ rest) × (new.cells ≡ cells_with old.cells a)

-- the offset behind a record is within the file, and a record's length away
abbrev pub IsNext : ℕ → ℕ → Option ℕ → Type 0
IsNext at end None = ⊤
IsNext at end (Some next) = (next ≤ end) × (next ≤ at + 2 ^ 33)

-- at most so many records were read, and make up what the coordinator holds; the closed gate behind them stands at this
-- offset of the file
pub record HasRead (old new : GatherSpec) (bytes : List ℕ) (gate : ℕ) : Type 0 where
  pub answers : List Answer
  pub few : length answers ≤ max_records
  pub records : List ℕ
  pub are_records : AreRecords old.job answers records
  pub offset : 4 + length records ≡ gate
  pub closed : IsClosedBehind records bytes
  pub state : new.cells ≡ joined old.job.cut answers

-- the file is a journal of what the coordinator holds, of at most so many records, and its closed gate stands at this
-- offset
pub record IsFileOf (gate : ℕ) (g : GatherSpec) (file : List ℕ) : Type 0 where
  pub answers : List Answer
  pub few : length answers ≤ max_records
  pub records : List ℕ
  pub are_records : AreRecords g.job answers records
  pub offset : length (journal_magic ++ records) ≡ gate
  pub closed : IsClosedBehind (journal_magic ++ records) file
  pub state : g.cells ≡ joined g.job.cut answers
