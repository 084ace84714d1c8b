-- Proofs of the goals of `put_numbered` (`dictionary::entries`).
use Rattle.std.proofs.Common.{◌≡◌, ◌<◌, length, map, get_or, sym, ap, ◌∙◌, arith}
use Rattle.std.proofs.lemmas.List.{get_or-map, length-map}
use Rattle.meaning.specs.declared.value.Value.TheVariants.{Null}
use Rattle.blocks.specs.Plain.{cells_at}
use Rattle.encodings.proofs.EncodedForms.{index_below}
use Rattle.encodings.proofs.NumberEntries.{numbered_more}
use Rattle.encodings.proofs.dictionary.entries.put_numbered.Goals as goal

pub loop-number-preserved : goal.loop-number-preserved
loop-number-preserved g c =
    let value = g.K.Cell.value in
    let firsts = c.args.firsts.now in
    let number = c.loop-number.number in
    let cells = map value c.args.cells.now in
    let cell = c.index-cells-firsts.result in
    let here : number < length firsts = omega arith in
    let below : get_or firsts number 0 < length c.args.cells.now = index_below firsts (length c.args.cells.now) number c.requires.within here in
    let long = length-map firsts (λ p. get_or cells p Null) in
    let stands : get_or (cells_at cells firsts) number Null ≡ value cell =
    get_or-map (λ p. get_or cells p Null) firsts number 0 Null here
    ∙ (get_or-map value c.args.cells.now (get_or firsts number 0) cell Null below
    ∙ ap value (sym c.index-cells-firsts.is)) in
    rw c.in_ok-push.ensures.items (numbered_more value (cells_at cells firsts) c.loop-number.numbered.items cell number c.loop-number.invariant (omega arith) (sym stands))
