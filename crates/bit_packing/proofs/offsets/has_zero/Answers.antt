-- Proofs of the goals of `has_zero` (`offsets`).
use Rattle.std.proofs.Common.{◌≡◌, ◌+◌, ◌*◌, ◌==◌, true, false, negsuc, ◌∙◌, arith}
use Rattle.std.specs.Ordering.{int_eq}
use Rattle.bit_packing.specs.Offsets.{offset_at}
use Rattle.bit_packing.specs.Offsets.{lifted}
use Rattle.bit_packing.proofs.OffsetPieces.{any_in, found_in, least_is, piece_has, piece_lacks, piece_back}
use Rattle.bit_packing.proofs.offsets.has_zero.Goals as goal

pub returns-then-has_least : goal.returns-then-has_least
returns-then-has_least c =
    let from = 256 * c.loop-k.k in
    let found : any_in (λ offset. offset == 0) (offset_at c.args.width c.args.packed.now) from c.piece_len.result ≡ true =
    found_in (λ n. int_eq n (negsuc 9223372036854775807)) (λ offset. offset == 0) (offset_at c.args.width c.args.packed.now) least_is from c.piece_len.result c.loop-k.lanes c.fill_lifted.new.out c.has_least.result true (omega arith) c.fill_lifted.ensures c.has_least.ensures c.if-has_least.true in
    piece_has (λ offset. offset == 0) (offset_at c.args.width c.args.packed.now) c.args.rows from c.piece_len.result _ c.piece_len.ensures.within c.loop-k.invariant.behind found

pub loop-k-preserved : goal.loop-k-preserved
loop-k-preserved c =
    let from = 256 * c.loop-k.k in
    let none : any_in (λ offset. offset == 0) (offset_at c.args.width c.args.packed.now) from c.piece_len.result ≡ false =
    found_in (λ n. int_eq n (negsuc 9223372036854775807)) (λ offset. offset == 0) (offset_at c.args.width c.args.packed.now) least_is from c.piece_len.result c.loop-k.lanes c.fill_lifted.new.out c.has_least.result false (omega arith) c.fill_lifted.ensures c.has_least.ensures c.if-has_least.false in
    record {
      behind = piece_lacks (λ offset. offset == 0) (offset_at c.args.width c.args.packed.now) c.args.rows from c.piece_len.result (256 * (c.loop-k.k + 1)) _ c.piece_len.ensures.within (omega arith) (λ h. c.piece_len.ensures.last (omega arith)) c.loop-k.invariant.behind none;
      room = piece_back (λ i. lifted (offset_at c.args.width c.args.packed.now i)) from c.piece_len.result c.loop-k.lanes c.fill_lifted.new.out (omega arith) c.fill_lifted.ensures ∙ c.loop-k.invariant.room;
    }
