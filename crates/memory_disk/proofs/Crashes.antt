-- What a crash of the disk in memory leaves is an image of it.
use Rattle.std.specs.Prelude.{◌≡◌, ℕ, ◌<◌, max, true, false, Bool, ◌&&◌, not, cond, List, length, slice_index, get_or}
use Rattle.std.specs.List.{range_with_len}
use Rattle.std.proofs.Common.{refl, ap, ◌∙◌, arith, zero-add}
use Rattle.std.proofs.lemmas.Bool.{lt-ltb}
use Rattle.std.proofs.lemmas.List.{get_or-map, length-map}
use Rattle.std.proofs.lemmas.List.FromFn.{get_or-range_with_len, length-range_with_len}
use Rattle.disk.specs.Disk.{IsImage, is_written}
use Rattle.memory_disk.specs.Memory.{byte_left, image_of, left_by_crash, state_of, unsynced_of}
use Rattle.memory_disk.specs.declared.moment.Moment.{Moment}

module _ (m : Moment) (chosen : List ℕ) where
  long : length (image_of m chosen) ≡ max (length chosen) m.least
  long = length-map (range_with_len 0 (max (length chosen) m.least)) (byte_left m chosen) ∙ length-range_with_len 0 (max (length chosen) m.least)

  -- the byte at an offset that a crash leaves
  byte_at : (offset : ℕ) → offset < max (length chosen) m.least → get_or (image_of m chosen) offset 0 ≡ byte_left m chosen offset
  byte_at offset below =
      let n = max (length chosen) m.least in
      get_or-map (byte_left m chosen) (range_with_len 0 n) offset 0 0 (omega (arith, below, length-range_with_len 0 n))
      ∙ ap (byte_left m chosen) (get_or-range_with_len 0 n offset 0 below ∙ zero-add offset)

  stays : (offset : ℕ) → offset < m.least → is_written m.ranges.items offset ≡ false → slice_index (image_of m chosen) offset ≡ slice_index m.bytes.items offset
  stays offset below out =
      byte_at offset (omega (arith, below))
      ∙ ap (λ b. cond (b && not (is_written m.ranges.items offset)) (slice_index m.bytes.items offset) (slice_index chosen offset)) (lt-ltb offset m.least below)
      ∙ ap (λ b. cond (not b) (slice_index m.bytes.items offset) (slice_index chosen offset)) out

pub left_is_image : (m : Moment) (chosen : List ℕ) → IsImage (state_of m) (left_by_crash m chosen)
left_is_image m chosen = by_case m.is_synced
  where
    by_case : (is_synced : Bool) → IsImage (record { reads = m.bytes.items; unsynced = unsynced_of is_synced m.ranges.items m.least }) (cond is_synced m.bytes.items (image_of m chosen))
    by_case true = refl
    by_case false = record { long = omega (arith, long m chosen); stay = stays m chosen }
