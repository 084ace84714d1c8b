-- Proofs of the goals of `word_of` (`dictionary::slots`).
use Rattle.std.proofs.Common.{◌≡◌, ◌-◌, ◌/◌, true, false, nat_le, if◌then◌else◌, length, take, drop, sym, ap, ◌∙◌, arith}
use Rattle.std.specs.Int.{w32, from_le_bytes}
use Rattle.std.proofs.lemmas.Bool.Decides.{nat_tests}
use Rattle.std.proofs.lemmas.List.{take_rest}
use Rattle.bit_packing.specs.Bytes.{number_of}
use Rattle.encodings.specs.Slots.{eight_at, mixed}
use Rattle.encodings.proofs.dictionary.slots.word_of.Goals as goal

pub returns-then-text-ge4 : goal.returns-then-text-ge4
returns-then-text-ge4 c =
    let text = c.args.text.now in
    let shorter : nat_le 16 (length text) ≡ false = grind (arith, nat_tests) in
    let short : nat_le 8 (length text) ≡ false = grind (arith, nat_tests) in
    let enough : nat_le 4 (length text) ≡ true = grind (arith, nat_tests) in
    let front = from_le_bytes w32 (take 4 text) in
    let back = from_le_bytes w32 (take 4 (drop (length text - 4) text)) in
    c.mixed-then-text-ge4.ensures
    ∙ ap (λ k. mixed k c.from-then-text-ge4.result) (c.from.ensures ∙ c.word_at.ensures)
    ∙ ap (mixed front) (c.from-then-text-ge4.ensures ∙ c.word_at-then-text-ge4.ensures ∙ ap (λ xs. from_le_bytes w32 (take 4 xs)) (take_rest text (length text - 4)))
    ∙ ap (λ b. if b then mixed front back else number_of text) (sym enough)
    ∙ ap (λ b. if b then mixed (eight_at 0 text) (eight_at (length text - 8) text) else (if nat_le 4 (length text) then mixed front back else number_of text)) (sym short)
    ∙ ap (λ b. if b then mixed (mixed (eight_at 0 text) (eight_at (length text / 2 - 4) text)) (eight_at (length text - 8) text) else (if nat_le 8 (length text) then mixed (eight_at 0 text) (eight_at (length text - 8) text) else (if nat_le 4 (length text) then mixed front back else number_of text))) (sym shorter)
