-- Proofs of the goals of `are_marked` (`marked`).
use Rattle.std.proofs.Common.{◌≡◌, ℕ, ◌+◌, ◌*◌, ◌%◌, ◌^◌, ◌==◌, Bool, true, false, sym, ap, ◌∙◌, arith}
use Rattle.bit_packing.specs.Bits.{all_set_pass, is_set}
use Rattle.bit_packing.specs.Offsets.{offset_at}
use Rattle.bit_packing.proofs.MarkedRows.{marks_within, no_bits, word_more}
use Rattle.bit_packing.proofs.MaskWindows.{window}
use Rattle.bit_packing.proofs.Steps.{and_true, and_false}
use Rattle.bit_packing.proofs.UnpackNumbers.{are_bytes}
use Rattle.bit_packing.proofs.marked.are_marked.Goals as goal

pub are_marked_in_word-requires-clause-marked : goal.are_marked_in_word-requires-clause-marked
are_marked_in_word-requires-clause-marked c =
    let mask = c.args.mask.now in
    let k = c.loop-k.k in
    let n = c.word_len.result in
    let word : c.low_bits-word.result ≡ window (8 * k) mask % 2 ^ n = c.low_bits-word.ensures ∙ ap (λ w. w % 2 ^ n) c.window_at.ensures in
    λ i set. marks_within (λ _. true) mask (are_bytes mask c.type_inv.mask) c.args.rows (64 * k) n c.word_len.ensures.few c.word_len.ensures.within c.word_len.ensures.last (8 * k) i (ap (λ w. is_set w i) (sym word) ∙ set)

pub returns-then-not-are_marked_in_word : goal.returns-then-not-are_marked_in_word
returns-then-not-are_marked_in_word c =
    let mask = c.args.mask.now in
    let k = c.loop-k.k in
    let n = c.word_len.result in
    let p : ℕ → Bool = λ i. offset_at c.args.width c.args.packed.now i == c.args.number in
    let word : c.low_bits-word.result ≡ window (8 * k) mask % 2 ^ n = c.low_bits-word.ensures ∙ ap (λ w. w % 2 ^ n) c.window_at.ensures in
    let fails : all_set_pass (λ i. p (64 * k + i)) (window (8 * k) mask % 2 ^ n) ≡ false = sym (c.are_marked_in_word.ensures ∙ ap (all_set_pass (λ i. p (64 * k + i))) word) ∙ c.if-not-are_marked_in_word.true in
    let step = word_more p mask (are_bytes mask c.type_inv.mask) c.args.rows (64 * k) n c.word_len.ensures.few c.word_len.ensures.within c.word_len.ensures.last (8 * k) (64 * (k + 1)) (omega arith) (omega arith) in
    and_false _ _ _ (sym step ∙ c.loop-k.invariant) fails

pub loop-k-preserved : goal.loop-k-preserved
loop-k-preserved c =
    let mask = c.args.mask.now in
    let k = c.loop-k.k in
    let n = c.word_len.result in
    let p : ℕ → Bool = λ i. offset_at c.args.width c.args.packed.now i == c.args.number in
    let word : c.low_bits-word.result ≡ window (8 * k) mask % 2 ^ n = c.low_bits-word.ensures ∙ ap (λ w. w % 2 ^ n) c.window_at.ensures in
    let passes : all_set_pass (λ i. p (64 * k + i)) (window (8 * k) mask % 2 ^ n) ≡ true = sym (c.are_marked_in_word.ensures ∙ ap (all_set_pass (λ i. p (64 * k + i))) word) ∙ c.if-not-are_marked_in_word.false in
    let step = word_more p mask (are_bytes mask c.type_inv.mask) c.args.rows (64 * k) n c.word_len.ensures.few c.word_len.ensures.within c.word_len.ensures.last (8 * k) (64 * (k + 1)) (omega arith) (omega arith) in
    and_true _ _ _ (sym step ∙ c.loop-k.invariant) passes

pub returns-then-number-eq0 : goal.returns-then-number-eq0
returns-then-number-eq0 c =
    no_bits c.args.mask.now c.args.packed.now c.args.rows c.args.width c.args.number (omega arith) (omega arith)
