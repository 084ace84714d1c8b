-- Proofs of the goals of `plain_text_key` (`plain_texts`).
use Rattle.std.proofs.Common.{rules, arith, ◌≡◌, length, get_or, ap, ◌∙◌}
use Rattle.vectors.specs.declared.vector.Vector.{Vector}
use Rattle.aggregate_states.specs.Values.{selected}
use Rattle.vectors.specs.Vector.{values_of}
use Rattle.group_keys.proofs.Texts.{text_rows, texts_spelled}
use Rattle.group_keys.proofs.plain_texts.plain_text_key.Goals as goal

pub returns-clause-value : goal.returns-clause-value
returns-clause-value c =
    let list = c.args.selection.now.list in
    let one : length c.args.lanes.now ≡ 1 = search rules in
    text_rows c.args.lanes.now c.index-lanes-0.result list c.in_ok-texts.texts.now one
    (c.in_ok-texts.ensures.value ∙ ap (λ (v : Vector). selected (values_of v) list) c.index-lanes-0.is)

pub returns-clause-spelled : goal.returns-clause-spelled
returns-clause-spelled c =
    let lanes = c.args.lanes.now in
    let column = c.index-lanes-0.result in
    let one : length lanes ≡ 1 = search rules in
    texts_spelled c.in_ok-texts.texts.now (values_of (get_or lanes 0 column)) (c.in_ok-texts.ensures.whole ∙ ap values_of c.index-lanes-0.is)
    (c.requires 0 column (omega (arith, one))).1
