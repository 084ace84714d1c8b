-- Proofs of the goals of `put_mask` (`packing`).
use Rattle.std.proofs.Common.{arith, ◌+◌, ◌-◌, ◌*◌, ◌/◌, List, ℕ, length, map, refl, subst}
use Rattle.bit_packing.specs.Packing.{ArePacked, packed, bit_of}
use Rattle.bit_packing.proofs.PackedBits.{packs_more, packed_all}
use Rattle.bit_packing.proofs.packing.put_mask.Goals as goal

pub loop-k-preserved : goal.loop-k-preserved
loop-k-preserved c = record {
  few = c.in_ok-bits.ensures.few;
  packs = packs_more bit_of 1 _ _ _ _ c.args.nulls.now _ (16 * c.loop-k.k) (16 * c.loop-k.k) 16 (16 * c.loop-k.k + 16 - 16 * c.loop-k.k) (16 * (c.loop-k.k + 1)) _ (omega arith) (omega arith) refl (omega arith) refl (omega arith) (c.in_ok-bits.ensures.packs _ _ _ c.loop-k.invariant.packs);
}

pub finish-requires-clause-low : goal.finish-requires-clause-low
finish-requires-clause-low c = (c.in_ok-bits-2.ensures.packs _ _ _ c.loop-k.invariant.packs).low

pub returns : goal.returns
returns c =
    let xs = c.args.nulls.now in
    let i : ℕ = 16 * c.loop-k.k in
    subst (λ (before : List ℕ). ArePacked before c.finish.new.out.items (length xs) (packed 1 (map bit_of xs))) c.make_room.ensures.same
    (packed_all bit_of 1 _ _ xs (length xs) _ (omega arith) (omega arith) (omega arith) (c.in_ok-finish.ensures _ _ _
    (packs_more bit_of 1 _ _ _ _ xs _ i (length xs / 16 * 16) (length xs - i) (length xs - length xs / 16 * 16) (length xs) _ (omega arith) (omega arith) (omega arith) (omega arith) refl (omega arith) (c.in_ok-bits-2.ensures.packs _ _ _ c.loop-k.invariant.packs))))
