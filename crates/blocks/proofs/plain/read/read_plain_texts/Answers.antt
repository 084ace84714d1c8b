-- Proofs of the goals of `read_plain_texts` (`plain::read`).
use Rattle.std.proofs.Common.{ℕ, length, take, drop, map, ap, ◌∙◌}
use Rattle.meaning.specs.declared.value.Value.TheVariants.{Text}
use Rattle.columns.specs.Texts.{texts_from}
use Rattle.blocks.specs.Plain.{ends_of}
use Rattle.blocks.specs.Plain.{texts_in}
use Rattle.blocks.proofs.ReadBodies.{part-map}
use Rattle.blocks.proofs.plain.read.read_plain_texts.Goals as goal

pub returns : goal.returns
returns c =
    let body = c.args.body.now in
    let rows : ℕ = c.args.rows in
    let from : ℕ = c.args.from in
    let n : ℕ = length c.args.out.now in
    let texts = c.texts_form.result in
    ap (map Text) c.fill_texts.ensures
    ∙ part-map Text n from (texts_in texts.ends.now texts.joined.now)
    ∙ ap (λ ends. take n (drop from (map Text (texts_in ends texts.joined.now)))) c.texts_form.ensures.ends
    ∙ ap (λ joined. take n (drop from (map Text (texts_from 0 (ends_of rows body) joined)))) c.texts_form.ensures.joined
