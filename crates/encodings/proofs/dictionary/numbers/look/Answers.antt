-- Proofs of the goals of `look` (`dictionary::numbers`).
use Rattle.std.proofs.Common.{◌≡◌, ◌+◌, ◌/◌, ◌%◌, ◌<◌, length, get_or, sym, ap, ◌∙◌, arith}
use Rattle.std.proofs.lemmas.List.{get_or-map}
use Rattle.meaning.specs.declared.value.Value.TheVariants.{Null}
use Rattle.meaning.proofs.Same.{same_is}
use Rattle.encodings.proofs.EncodedForms.{index_below}
use Rattle.encodings.proofs.dictionary.numbers.look.Goals as goal

pub returns-then-eq-clause-number : goal.returns-then-eq-clause-number
returns-then-eq-clause-number g c =
    let value = g.K.Cell.value in
    let cells = c.args.cells.now in
    let firsts = c.args.firsts.now in
    let cell = c.index-cells-firsts.result in
    let number = get_or c.args.slots.now ((c.slot-first_slot.result / 2 + c.loop-step.step) % 16384) 0 in
    let known : c.from-in-loop-step.result ≡ number = c.from-in-loop-step.ensures in
    let low : number < length firsts = omega arith in
    let below : get_or firsts number 0 < length cells = index_below firsts (length cells) number c.requires.rows low in
    let stands : cell ≡ get_or cells (get_or firsts number 0) cell = c.index-cells-firsts.is ∙ ap (λ k. get_or cells (get_or firsts k 0) cell) known in
    (low, get_or-map value cells (get_or firsts number 0) cell Null below ∙ ap value (sym stands) ∙ same_is (value cell) (value c.args.cell) (sym (g.met.K.Cell.same cell c.args.cell) ∙ sym c.eq.ensures ∙ c.if-eq.true))
