-- Proofs of the goals of `has_offset_from` (`offsets`).
use Rattle.std.proofs.Common.{◌≡◌, ◌+◌, ◌*◌, nat_le, true, false, w64, to_z, of_z, ap, ◌∙◌, arith}
use Rattle.std.specs.Int.Signed.{le_z}
use Rattle.bit_packing.specs.Offsets.{offset_at}
use Rattle.bit_packing.specs.Offsets.{lifted}
use Rattle.bit_packing.proofs.OffsetPieces.{any_in, found_in, high_is, piece_has, piece_lacks, piece_back}
use Rattle.bit_packing.proofs.Ranges.{stored}
use Rattle.bit_packing.proofs.offsets.has_offset_from.Goals as goal

pub returns-then-has_high : goal.returns-then-has_high
returns-then-has_high c =
    let from = 256 * c.loop-k.k in
    let found : any_in (nat_le c.args.least) (offset_at c.args.width c.args.packed.now) from c.piece_len.result ≡ true =
    found_in (le_z (to_z w64 (of_z w64 c.raised-lifted_least.result))) (nat_le c.args.least) (offset_at c.args.width c.args.packed.now) (λ offset. ap (λ n. le_z n (lifted offset)) (stored c.raised-lifted_least.result c.raised-lifted_least.type_inv ∙ c.raised-lifted_least.ensures) ∙ high_is c.args.least offset) from c.piece_len.result c.loop-k.lanes c.fill_lifted.new.out c.has_high.result true (omega arith) c.fill_lifted.ensures c.has_high.ensures c.if-has_high.true in
    piece_has (nat_le c.args.least) (offset_at c.args.width c.args.packed.now) c.args.rows from c.piece_len.result _ c.piece_len.ensures.within c.loop-k.invariant.behind found

pub loop-k-preserved : goal.loop-k-preserved
loop-k-preserved c =
    let from = 256 * c.loop-k.k in
    let none : any_in (nat_le c.args.least) (offset_at c.args.width c.args.packed.now) from c.piece_len.result ≡ false =
    found_in (le_z (to_z w64 (of_z w64 c.raised-lifted_least.result))) (nat_le c.args.least) (offset_at c.args.width c.args.packed.now) (λ offset. ap (λ n. le_z n (lifted offset)) (stored c.raised-lifted_least.result c.raised-lifted_least.type_inv ∙ c.raised-lifted_least.ensures) ∙ high_is c.args.least offset) from c.piece_len.result c.loop-k.lanes c.fill_lifted.new.out c.has_high.result false (omega arith) c.fill_lifted.ensures c.has_high.ensures c.if-has_high.false in
    record {
      behind = piece_lacks (nat_le c.args.least) (offset_at c.args.width c.args.packed.now) c.args.rows from c.piece_len.result (256 * (c.loop-k.k + 1)) _ c.piece_len.ensures.within (omega arith) (λ h. c.piece_len.ensures.last (omega arith)) c.loop-k.invariant.behind none;
      room = piece_back (λ i. lifted (offset_at c.args.width c.args.packed.now i)) from c.piece_len.result c.loop-k.lanes c.fill_lifted.new.out (omega arith) c.fill_lifted.ensures ∙ c.loop-k.invariant.room;
    }
