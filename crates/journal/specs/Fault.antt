-- Why a durable coordinator refuses a call.
use Rattle.std.specs.Prelude.{◌≡◌, ◌≢◌, ℕ, ◌<◌, ◌≤◌, ◌^◌, false, List, length, Some, ⊤}
use Rattle.meaning.specs.Said.{Answer}
use Rattle.disk.specs.Disk.{DiskSpec, IsHonest}
use Rattle.disk.specs.declared.disk.DiskFault.{DiskFault}
use Rattle.disk.specs.declared.disk.DiskFault.TheVariants as of_disk
use Rattle.answer_fields.specs.Fault as codec
use Rattle.partial_codec.specs.Job.{JobSpec}
use Rattle.answer_fields.specs.declared.fault.DecodeFault.{DecodeFault}
use Rattle.partial_codec.specs.Answer.{Spells, obstacle}
use Rattle.gathering.specs.declared.fault.GatherFault.{GatherFault}
use Rattle.gathering.specs.declared.fault.GatherFault.TheVariants as of_gather
use Rattle.gathering.specs.Gathering.{GatherSpec, cells_with}
use Rattle.journal.specs.declared.fault.JournalFault.{JournalFault}
use Rattle.journal.specs.declared.fault.JournalFault.TheVariants as fault
use Rattle.journal.specs.Journal.{IsJournal, max_records}
use Rattle.journal.specs.Durable.{DurableSpec}

-- the error code
abbrev pub number_of : JournalFault → ℕ
number_of fault.Memory = 0
number_of (fault.Decode e) = codec.number_of e
number_of fault.Device = 12
number_of fault.Full = 13
number_of fault.NotAJournal = 14
number_of fault.OpenAgain = 15
number_of fault.TooLong = 16

abbrev pub fault_of_disk : DiskFault → JournalFault
fault_of_disk of_disk.Device = fault.Device
fault_of_disk of_disk.Full = fault.Full

-- of a call that refuses nothing but bytes
abbrev pub fault_of_gather : GatherFault → JournalFault
fault_of_gather of_gather.Memory = fault.Memory
fault_of_gather (of_gather.Decode e) = fault.Decode e
fault_of_gather of_gather.OtherJob = fault.Memory
fault_of_gather of_gather.Writer = fault.Memory

-- ---- absorbing

-- the bytes spell an answer that changes what is held for its fragment
abbrev pub IsAppended : GatherSpec → List ℕ → Type 0
IsAppended g bytes = (a : Answer) × Spells g.job bytes a × (cells_with g.cells a ≢ g.cells)

-- Where taking the bytes is refused: memory ran out, the first obstacle of the bytes is returned, a call of an earlier
-- failure still stands, or an answer that is to be appended is longer than a record can say; all of these leave everything as it was. Or the
-- disk failed in this call: nothing but the disk can be had from then on.
abbrev pub RefusesAbsorb : DurableSpec → DurableSpec → List ℕ → JournalFault → Type 0
RefusesAbsorb old new bytes fault.Memory = new ≡ old
RefusesAbsorb old new bytes (fault.Decode e) = (new ≡ old) × (obstacle old.gather.job bytes ≡ Some e)
RefusesAbsorb old new bytes fault.Device = (new.is_open ≡ false) × (old.disk.failures < new.disk.failures)
RefusesAbsorb old new bytes fault.Full = (new.is_open ≡ false) × (old.disk.fulls < new.disk.fulls)
RefusesAbsorb old new bytes fault.NotAJournal = ⊥
RefusesAbsorb old new bytes fault.OpenAgain = (new ≡ old) × (old.is_open ≡ false)
RefusesAbsorb old new bytes fault.TooLong = (new ≡ old) × (2 ^ 32 ≤ length bytes) × IsAppended old.gather bytes

-- ---- opening

-- the file is no journal of so few answers
abbrev pub IsNoFile : JobSpec → List ℕ → Type 0
IsNoFile job file = (answers : List Answer) → length answers ≤ max_records → IsJournal job answers file → ⊥

-- Where reading is refused: memory ran out, the disk failed in this call, or on an honest disk this is wrong.
abbrev pub RefusesReading : DiskSpec → DiskSpec → Type 0 → JournalFault → Type 0
RefusesReading old new wrong fault.Memory = ⊤
RefusesReading old new wrong (fault.Decode e) = ⊥
RefusesReading old new wrong fault.Device = old.failures < new.failures
RefusesReading old new wrong fault.Full = old.fulls < new.fulls
RefusesReading old new wrong fault.NotAJournal = IsHonest old → wrong
RefusesReading old new wrong fault.OpenAgain = ⊥
RefusesReading old new wrong fault.TooLong = ⊥

-- Where a record's bytes are refused: memory ran out, or they spell no answer for the job.
abbrev pub RefusesSpelling : JobSpec → List ℕ → JournalFault → Type 0
RefusesSpelling job spelling fault.Memory = ⊤
RefusesSpelling job spelling (fault.Decode e) = ⊥
RefusesSpelling job spelling fault.Device = ⊥
RefusesSpelling job spelling fault.Full = ⊥
RefusesSpelling job spelling fault.NotAJournal = (e : DecodeFault) × (obstacle job spelling ≡ Some e)
RefusesSpelling job spelling fault.OpenAgain = ⊥
RefusesSpelling job spelling fault.TooLong = ⊥

-- ---- creating

-- Where creating is refused: memory ran out, which leaves the disk as it was, or the disk failed in this call.
abbrev pub RefusesCreate : DiskSpec → DiskSpec → JournalFault → Type 0
RefusesCreate old new fault.Memory = new ≡ old
RefusesCreate old new (fault.Decode e) = ⊥
RefusesCreate old new fault.Device = old.failures < new.failures
RefusesCreate old new fault.Full = old.fulls < new.fulls
RefusesCreate old new fault.NotAJournal = ⊥
RefusesCreate old new fault.OpenAgain = ⊥
RefusesCreate old new fault.TooLong = ⊥
