-- A disk in memory as contracts see it.
use Rattle.std.specs.Prelude.{ℕ, nat_lt, max, true, false, Bool, ◌&&◌, not, if◌then◌else◌, List, map, length, slice_index}
use Rattle.std.specs.List.{range_with_len}
use Rattle.std.proofs.Common.{refl}
use Rattle.disk.specs.declared.disk.Range.{Range}
use Rattle.disk.specs.Disk.{Unsynced, Synced, Asked, State, IsImage, is_written}
use Rattle.memory_disk.specs.declared.moment.Moment.{Moment}

abbrev pub unsynced_of : Bool → List Range → ℕ → Unsynced
unsynced_of is_synced ranges least = if is_synced then Synced else Asked ranges least

abbrev pub state_of : Moment → State
state_of m = record { reads = m.bytes.items; unsynced = unsynced_of m.is_synced m.ranges.items m.least }

-- what reads give may stay
pub reads_stay : (m : Moment) → IsImage (state_of m) m.bytes.items
reads_stay m = by_case m.is_synced
  where
    by_case : (is_synced : Bool) → IsImage (record { reads = m.bytes.items; unsynced = unsynced_of is_synced m.ranges.items m.least }) m.bytes.items
    by_case true = refl
    by_case false = record { long = m.within; stay = λ offset below out. refl }

-- ---- crashes

-- the byte at an offset: what a read gives where a crash changes nothing, else the one that was chosen
abbrev pub byte_left : Moment → List ℕ → ℕ → ℕ
byte_left m chosen offset =
    if nat_lt offset m.least && not (is_written m.ranges.items offset) then slice_index m.bytes.items offset else slice_index chosen offset

-- of a disk that isn't synced: as many bytes as were chosen, or the least that a crash leaves
abbrev pub image_of : Moment → List ℕ → List ℕ
image_of m chosen = map (byte_left m chosen) (range_with_len 0 (max (length chosen) m.least))

-- what a crash leaves, as the chosen bytes say where any may be
abbrev pub left_by_crash : Moment → List ℕ → List ℕ
left_by_crash m chosen = if m.is_synced then m.bytes.items else image_of m chosen
