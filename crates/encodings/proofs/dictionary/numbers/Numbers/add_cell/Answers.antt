-- Proofs of the goals of `Numbers::add_cell` (`dictionary::numbers`).
use Rattle.std.proofs.Common.{◌≡◌, ◌<◌, length, map, get_or, sym, ap, subst, ◌∙◌, arith}
use Rattle.std.proofs.lemmas.List.{get_or-map, length-map}
use Rattle.meaning.specs.declared.value.Value.TheVariants.{Null}
use Rattle.encodings.proofs.RowNumbers.{number_new, number_known}
use Rattle.encodings.proofs.dictionary.numbers.Numbers.add_cell.Goals as goal

pub returns-in_ok-push-in-Ok-clause-numbers : goal.returns-in_ok-push-in-Ok-clause-numbers
returns-in_ok-push-in-Ok-clause-numbers g c =
    let value = g.K.Cell.value in
    let cells = map value c.args.cells.now in
    let cell = c.index-cells-row.result in
    let firsts = c.args.self.now.firsts.items in
    let number = c.in-Ok.number in
    let long = length-map c.args.cells.now value in
    let within : c.args.row < length cells = let h = c.requires.within in omega arith in
    let here : get_or cells c.args.row Null ≡ value cell = get_or-map value c.args.cells.now c.args.row cell Null c.requires.within ∙ ap value (sym c.index-cells-row.is) in
    let returned = subst (λ fs. (number < length fs) × (get_or cells (get_or fs number 0) Null ≡ value cell)) c.as_slice.ensures.value c.in-Ok.ensures.number in
    rw c.in_ok-push-in-Ok.ensures.items (number_known cells firsts c.args.self.now.of_rows.items c.args.row number c.requires.numbers within returned.0 (returned.1 ∙ sym here))

pub returns-in_ok-slots-in-Err-clause-numbers : goal.returns-in_ok-slots-in-Err-clause-numbers
returns-in_ok-slots-in-Err-clause-numbers g c =
    let value = g.K.Cell.value in
    let cells = map value c.args.cells.now in
    let long = length-map c.args.cells.now value in
    let within : c.args.row < length cells = let h = c.requires.within in omega arith in
    rw (c.in_ok-slots-in-Err.ensures.firsts, c.in_ok-slots-in-Err.ensures.of_rows) (number_new cells c.args.self.now.firsts.items c.args.self.now.of_rows.items c.args.row c.in_ok-slots-in-Err.field-0 c.requires.numbers within c.in_ok-slots-in-Err.ensures.number)
