-- A coordinator that keeps its answers in a journal.
use Rattle.std.specs.Prelude.{◌≡◌, ◌⊎◌, ℕ, ◌+◌, ◌*◌, ◌≤◌, ◌^◌, Bool, true, List, ◌++◌, length}
use Rattle.meaning.specs.Said.{Answer, Cell}
use Rattle.meaning.specs.Gather.{joined}
use Rattle.disk.specs.Disk.{Synced, State, IsImage, DiskSpec, IsHonest, HasRoom}
use Rattle.gathering.specs.declared.gather.Absorbed.{Absorbed}
use Rattle.gathering.specs.Gathering.{GatherSpec, Takes}
use Rattle.journal.specs.Journal.{journal_magic, max_records, records_needed, AreRecords, IsClosedBehind, IsJournalOf}

-- the disk, what is gathered, and whether no call of the disk has failed since it was opened
pub record DurableSpec : Type 0 where
  pub disk : DiskSpec
  pub gather : GatherSpec
  pub is_open : Bool

-- ---- what contracts say

-- a crash now leaves a journal of what is gathered
abbrev pub IsDurable : DurableSpec → Type 0
IsDurable d = IsHonest d.disk → (image : List ℕ) → IsImage d.disk.now image → IsJournalOf d.gather image

-- the file is a journal of what was gathered, or of that with the answer that the bytes spell
abbrev pub IsBeforeOrAfter : GatherSpec → List ℕ → List ℕ → Type 0
IsBeforeOrAfter g bytes file = IsJournalOf g file
    ⊎ ((after : GatherSpec) × (returned : Absorbed) × Takes g after bytes returned × IsJournalOf after file)

-- ---- what is kept between calls

-- the file is a synced journal of what is gathered, whose closed gate stands at this offset
pub record IsJournalAt (gate : ℕ) (g : GatherSpec) (s : State) : Type 0 where
  pub synced : s.unsynced ≡ Synced
  pub answers : List Answer
  pub records : List ℕ
  pub are_records : AreRecords g.job answers records
  pub offset : length (journal_magic ++ records) ≡ gate
  pub closed : IsClosedBehind (journal_magic ++ records) s.reads
  pub state : g.cells ≡ joined g.job.cut answers

-- the offset of a closed gate behind as many records as are read, and one for each that was needed since, each of at
-- most so many bytes
abbrev pub last_gate : List Cell → ℕ
last_gate cells = 4 + (max_records + records_needed cells) * 2 ^ 33

-- as long as no call of the disk failed, one more fault can be counted, and an honest disk holds a journal
pub record IsKept (gate : ℕ) (d : DurableSpec) : Type 0 where
  pub near : gate ≤ last_gate d.gather.cells
  pub room : d.is_open ≡ true → HasRoom d.disk
  pub journal : d.is_open ≡ true → IsHonest d.disk → IsJournalAt gate d.gather d.disk.now
