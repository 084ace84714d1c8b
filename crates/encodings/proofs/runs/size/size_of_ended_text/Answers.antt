-- Proofs of the goals of `size_of_ended_text` (`runs::size`).
use Rattle.std.proofs.Common.{◌≡◌, ◌+◌, ◌-◌, [], if◌then◌else◌, length, map, take, drop, get_or, sym, ap, ◌∙◌, arith}
use Rattle.std.proofs.lemmas.List.{length-map, get_or-map}
use Rattle.meaning.specs.declared.value.Value.TheVariants.{Null, Text}
use Rattle.meaning.specs.Order.{bytes, same_value}
use Rattle.encodings.proofs.EncodedRuns.{rows_of, text_at}
use Rattle.encodings.proofs.runs.size.size_of_ended_text.Goals as goal

pub returns-then-is_same_text-clause-value : goal.returns-then-is_same_text-clause-value
returns-then-is_same_text-clause-value c =
    let cells = map Text (take (c.args.to - c.args.from) (drop c.args.from c.args.texts.now)) in
    let back : c.args.from + c.args.row - 1 ≡ c.args.from + (c.args.row - 1) = omega arith in
    let same : c.is_same_text.result ≡ same_value (get_or cells (c.args.row - 1) Null) (get_or cells c.args.row Null) =
    c.is_same_text.ensures ∙ ap (λ k. same_value (Text (get_or c.args.texts.now k [])) (Text (get_or c.args.texts.now (c.args.from + c.args.row) []))) back
    ∙ ap (λ v. same_value v (Text (get_or c.args.texts.now (c.args.from + c.args.row) []))) (sym (text_at c.args.texts.now c.args.from c.args.to (c.args.row - 1) c.requires.within (omega arith)))
    ∙ ap (same_value (get_or cells (c.args.row - 1) Null)) (sym (text_at c.args.texts.now c.args.from c.args.to c.args.row c.requires.within c.requires.row)) in
    ap (λ b. if b then 0 else 2 + (4 + length (bytes (get_or cells (c.args.row - 1) Null)))) (sym c.if-is_same_text.true ∙ same)

pub returns-clause-value : goal.returns-clause-value
returns-clause-value c =
    let ts = take (c.args.to - c.args.from) (drop c.args.from c.args.texts.now) in
    let cells = map Text ts in
    let rows = rows_of c.args.texts.now c.args.from c.args.to c.requires.within in
    let long = length-map ts Text in
    let back : c.args.from + c.args.row - 1 ≡ c.args.from + (c.args.row - 1) = omega arith in
    let same : c.is_same_text.result ≡ same_value (get_or cells (c.args.row - 1) Null) (get_or cells c.args.row Null) =
    c.is_same_text.ensures ∙ ap (λ k. same_value (Text (get_or c.args.texts.now k [])) (Text (get_or c.args.texts.now (c.args.from + c.args.row) []))) back
    ∙ ap (λ v. same_value v (Text (get_or c.args.texts.now (c.args.from + c.args.row) []))) (sym (text_at c.args.texts.now c.args.from c.args.to (c.args.row - 1) c.requires.within (omega arith)))
    ∙ ap (same_value (get_or cells (c.args.row - 1) Null)) (sym (text_at c.args.texts.now c.args.from c.args.to c.args.row c.requires.within c.requires.row)) in
    let last : Text c.text_at.result.now ≡ get_or cells (c.args.row - 1) Null = ap Text c.text_at.ensures.value ∙ sym (get_or-map Text ts (c.args.row - 1) [] Null (omega arith)) in
    let sum : 6 + length c.text_at.result.now ≡ 2 + (4 + length c.text_at.result.now) = omega arith in
    sum ∙ ap (λ v. 2 + (4 + length (bytes v))) last ∙ ap (λ b. if b then 0 else 2 + (4 + length (bytes (get_or cells (c.args.row - 1) Null)))) (sym c.if-is_same_text.false ∙ same)
