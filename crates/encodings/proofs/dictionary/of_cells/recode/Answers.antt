-- Proofs of the goals of `recode` (`dictionary::of_cells`).
use Rattle.std.proofs.Common.{◌<◌, ◌∙◌, ℕ, length, get_or, set, sym, ap, arith}
use Rattle.std.proofs.lemmas.Grind.{get_or_default_zero}
use Rattle.std.proofs.lemmas.List.Edits.{map_over_more}
use Rattle.encodings.proofs.dictionary.of_cells.recode.Goals as goal

pub loop-number-preserved : goal.loop-number-preserved
loop-number-preserved c =
    let items = c.loop-number.number-items in
    let i : ℕ = c.loop-number.number-index in
    let within : i < length items = omega (arith, c.loop-number.auto.number-items) in
    ap (λ n. set items i n) c.code_of.ensures ∙ map_over_more (λ number. get_or c.args.codes.now number 0) c.args.of_rows.now items i (get_or items i 0) (omega arith) c.loop-number.invariant (sym (get_or_default_zero items i (get_or items i 0) within))
