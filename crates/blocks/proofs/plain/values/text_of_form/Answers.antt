-- Proofs of the goals of `text_of_form` (`plain::values`).
use Rattle.std.proofs.Common.{◌∙◌, [], ap, get_or}
use Rattle.columns.specs.Texts.{texts_from}
use Rattle.blocks.specs.Plain.{ends_of, texts_in}
use Rattle.blocks.proofs.plain.values.text_of_form.Goals as goal

pub returns : goal.returns
returns c =
    let bytes = c.args.bytes.now in
    let texts = c.texts_form.result in
    c.text_at.ensures
    ∙ ap (λ ends. get_or (texts_in ends texts.joined.now) c.args.i []) c.texts_form.ensures.ends
    ∙ ap (λ joined. get_or (texts_from 0 (ends_of c.args.count bytes) joined) c.args.i []) c.texts_form.ensures.joined
