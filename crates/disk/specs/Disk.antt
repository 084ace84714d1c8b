-- Disks: what reads give, what was asked since the last sync that succeeded, and what a crash may leave of both.
use Rattle.std.specs.Prelude.{◌≡◌, ◌⊎◌, ℕ, ◌+◌, ◌<◌, ◌≤◌, ◌^◌, max, min, Bool, true, false, ◌&&◌, nat_lt, nat_le, List, [], ◌∷◌, ◌++◌, length, take, drop, slice_index, Result, Ok, Err}
use Rattle.std.specs.List.{list_any, AllByRecursion}
use Rattle.disk.specs.declared.disk.Range.{Range}
use Rattle.disk.specs.declared.disk.DiskFault.{DiskFault}
use Rattle.disk.specs.declared.disk.DiskFault.TheVariants.{Device, Full}

-- ---- ranges

-- the range has the offset
abbrev pub is_in : ℕ → Range → Bool
is_in offset r = nat_le r.from offset && nat_lt offset (r.from + r.count)

-- one of the ranges has the offset
abbrev pub is_written : List Range → ℕ → Bool
is_written ranges offset = list_any (is_in offset) ranges

-- ---- what a crash may leave

-- what was asked of a disk since its last sync that succeeded: nothing; or writes of ranges, and cuts, where the least
-- length is the least that the disk had since then or was to be cut to
pub data Unsynced : Type 0 where
  Synced : Unsynced
  Asked : (ranges : List Range) (least : ℕ) → Unsynced

-- a disk between two calls: what a read of all its bytes gives, and what is not known to be kept of it
pub record State : Type 0 where
  pub reads : List ℕ
  pub unsynced : Unsynced

-- Each range that a write was asked for, and all bytes from the least length on, may hold any bytes, and the end may
-- be anywhere from that length on. All other bytes are those that a read gives.
pub record IsLoose (reads : List ℕ) (ranges : List Range) (least : ℕ) (image : List ℕ) : Type 0 where
  pub long : least ≤ length image
  pub stay : (offset : ℕ) → offset < least → is_written ranges offset ≡ false → slice_index image offset ≡ slice_index reads offset

abbrev pub IsLeft : List ℕ → Unsynced → List ℕ → Type 0
IsLeft reads Synced image = image ≡ reads
IsLeft reads (Asked ranges least) image = IsLoose reads ranges least image

-- a crash may leave these bytes
abbrev pub IsImage : State → List ℕ → Type 0
IsImage s image = IsLeft s.reads s.unsynced image

-- ---- what calls do

-- bytes with others in their place from an offset on, and behind their end
abbrev pub overwritten : ℕ → List ℕ → List ℕ → List ℕ
overwritten from bytes old = take from old ++ bytes ++ drop (from + length bytes) old

-- outside the range the bytes are those from before, and none of them is lost
pub record AgreesOutside (r : Range) (old new : List ℕ) : Type 0 where
  pub longer : length old ≤ length new
  pub stay : (offset : ℕ) → offset < length old → is_in offset r ≡ false → slice_index new offset ≡ slice_index old offset

-- what is asked, with a write of a range of a disk that is so long
abbrev pub also_written : Range → ℕ → Unsynced → Unsynced
also_written r len Synced = Asked (r ∷ []) len
also_written r len (Asked ranges least) = Asked (r ∷ ranges) least

-- what is asked, with a cut to a length
abbrev pub also_cut : ℕ → Unsynced → Unsynced
also_cut len Synced = Asked [] len
also_cut len (Asked ranges least) = Asked ranges (min len least)

-- a write of these bytes from a offset on
abbrev pub after_write : ℕ → List ℕ → State → State
after_write from bytes s = record {
  reads = overwritten from bytes s.reads;
  unsynced = also_written (record { from = from; count = length bytes }) (length s.reads) s.unsynced;
}

-- a write of the range that failed in its midst: reads give any bytes there
pub record IsTorn (r : Range) (old new : State) : Type 0 where
  pub asked : new.unsynced ≡ also_written r (length old.reads) old.unsynced
  pub outside : AgreesOutside r old.reads new.reads
  pub no_longer : length new.reads ≤ max (length old.reads) (r.from + r.count)

-- a cut
abbrev pub after_cut : ℕ → State → State
after_cut len s = record { reads = take len s.reads; unsynced = also_cut len s.unsynced }

-- a cut that failed in its midst: at least what it was to leave is there
pub record IsCutShort (len : ℕ) (old new : State) : Type 0 where
  pub asked : new.unsynced ≡ also_cut len old.unsynced
  pub longer : len ≤ length new.reads
  pub front : take len new.reads ≡ take len old.reads

-- ---- disks through time

-- What contracts see of a disk. Of one that isn't honest only the counts mean something.
pub record DiskSpec : Type 0 where
  pub is_honest : Bool
  pub now : State
  -- how it was before each of its calls that changed something, from the first on
  pub past : List State
  -- how many calls were answered by a fault of the device, and how many by that the disk is full
  pub failures : ℕ
  pub fulls : ℕ

abbrev pub IsHonest : DiskSpec → Type 0
IsHonest d = d.is_honest ≡ true

-- one more fault can be counted
pub record HasRoom (d : DiskSpec) : Type 0 where
  pub failures : d.failures + 1 < 2 ^ 64
  pub fulls : d.fulls + 1 < 2 ^ 64

-- a fault raises its own count by one, and nothing else raises a count
abbrev pub Counts : {X : Type 0} → DiskSpec → DiskSpec → Result X DiskFault → Type 0
Counts old new (Ok x) = (new.failures ≡ old.failures) × (new.fulls ≡ old.fulls)
Counts old new (Err Device) = (new.failures ≡ old.failures + 1) × (new.fulls ≡ old.fulls)
Counts old new (Err Full) = (new.failures ≡ old.failures) × (new.fulls ≡ old.fulls + 1)

-- the state from before the call is past, unless the call changed nothing
abbrev pub GoesOn : DiskSpec → DiskSpec → Type 0
GoesOn old new = (new.past ≡ old.past ++ old.now ∷ []) ⊎ ((new.past ≡ old.past) × (new.now ≡ old.now))

-- one call: a disk is honest behind it just where it was before; time goes on; a fault is counted
pub record IsCall {X : Type 0} (old new : DiskSpec) (result : Result X DiskFault) : Type 0 where
  pub honest : new.is_honest ≡ old.is_honest
  pub time : IsHonest old → GoesOn old new
  pub counts : Counts old new result

-- A crash at any moment since then leaves bytes that have P. While a call runs, a crash leaves what it could leave before
-- the call, or what it can leave behind it.
pub record LeavesOnly (old new : DiskSpec) (P : List ℕ → Type 0) : Type 0 where
  pub states : List State
  pub since : new.past ≡ old.past ++ states
  pub each : AllByRecursion (λ s. (image : List ℕ) → IsImage s image → P image) (states ++ new.now ∷ [])

-- nothing is asked of it since its last sync that succeeded, and it has at least so many bytes
pub record IsSyncedFrom (offset : ℕ) (s : State) : Type 0 where
  pub synced : s.unsynced ≡ Synced
  pub within : offset ≤ length s.reads
