-- Proofs of the goals of `put_offsets` (`packing`).
use Rattle.std.proofs.Common.{◌*◌, ℤ, length, map, subst, OnOk, ◌-ℤ◌, unsigned_abs, w64}
use Rattle.std.proofs.lemmas.Int.{to_z-of_z}
use Rattle.bit_packing.specs.Packing.{ArePacked, packed}
use Rattle.bit_packing.proofs.packing.put_offsets.Goals as goal

pub returns-then-width-le16 : goal.returns-then-width-le16
returns-then-width-le16 c =
    subst (λ (base : ℤ). OnOk c.put_groups.result (ArePacked c.args.out.now.items c.put_groups.new.out.items (c.args.width * length c.args.ints.now) (packed c.args.width (map (λ (n : ℤ). unsigned_abs (n -ℤ base)) c.args.ints.now)))) (to_z-of_z w64 c.args.base c.ranges.base) c.put_groups.ensures

pub returns-then-width-le32 : goal.returns-then-width-le32
returns-then-width-le32 c =
    subst (λ (base : ℤ). OnOk c.put_groups-then-width-le32.result (ArePacked c.args.out.now.items c.put_groups-then-width-le32.new.out.items (c.args.width * length c.args.ints.now) (packed c.args.width (map (λ (n : ℤ). unsigned_abs (n -ℤ base)) c.args.ints.now)))) (to_z-of_z w64 c.args.base c.ranges.base) c.put_groups-then-width-le32.ensures

pub returns : goal.returns
returns c =
    subst (λ (base : ℤ). OnOk c.put_groups-2.result (ArePacked c.args.out.now.items c.put_groups-2.new.out.items (c.args.width * length c.args.ints.now) (packed c.args.width (map (λ (n : ℤ). unsigned_abs (n -ℤ base)) c.args.ints.now)))) (to_z-of_z w64 c.args.base c.ranges.base) c.put_groups-2.ensures
