-- Proofs of the goals of `choose_texts` (`choosing`).
use Rattle.std.proofs.Common.{◌≡◌, ◌+◌, ◌*◌, ◌-◌, ◌∙◌, ap, sym, subst, length, map, take, drop, arith}
use Rattle.std.specs.List.{concat}
use Rattle.std.proofs.lemmas.List.{length-map}
use Rattle.meaning.specs.declared.value.ColType.TheVariants as of_type
use Rattle.meaning.specs.declared.value.Value.TheVariants.{Text}
use Rattle.blocks.specs.declared.kind.Kind.TheVariants as kind
use Rattle.encodings.specs.Choice.{IsDictionaryWithin}
use Rattle.encodings.specs.Choosing.{body_size}
use Rattle.encodings.proofs.ChosenKinds.{best_text_dictionary, best_text_kind}
use Rattle.encodings.proofs.EncodedBodies.{plain_text_size}
use Rattle.encodings.proofs.EncodedRuns.{rows_of}
use Rattle.encodings.proofs.choosing.choose_texts.Goals as goal

pub returns-in-Some : goal.returns-in-Some
returns-in-Some c =
    let texts = take (c.args.to - c.args.from) (drop c.args.from c.args.texts.now) in
    let cells = map Text texts in
    let long = rows_of c.args.texts.now c.args.from c.args.to c.requires.within in
    let count : length texts ≡ c.args.to - c.args.from = omega (arith, long, length-map texts (λ t. Text t)) in
    let joined : length c.joined.result.now ≡ length (concat texts) = ap length c.joined.ensures.value in
    best_text_dictionary cells c.of_dictionary.result c.in-Some.dictionary (4 * (c.args.to - c.args.from) + length c.joined.result.now) c.runs_size_of_texts-runs.result c.min-most.result
    (plain_text_size texts ∙ (ap (λ n. 4 * n + length (concat texts)) count ∙ ap (λ n. 4 * (c.args.to - c.args.from) + n) (sym joined)))
    (sym c.runs_size_of_texts-runs.ensures) (omega arith) c.min-most.ensures
    (subst (IsDictionaryWithin cells (body_size kind.Dict of_type.Text cells) c.min-most.result) c.in-Some.is c.in_ok-dictionary.ensures) c.of_dictionary.ensures.kind c.of_dictionary.ensures.dictionary

pub returns-in-None : goal.returns-in-None
returns-in-None c =
    let texts = take (c.args.to - c.args.from) (drop c.args.from c.args.texts.now) in
    let cells = map Text texts in
    let long = rows_of c.args.texts.now c.args.from c.args.to c.requires.within in
    let count : length texts ≡ c.args.to - c.args.from = omega (arith, long, length-map texts (λ t. Text t)) in
    let joined : length c.joined.result.now ≡ length (concat texts) = ap length c.joined.ensures.value in
    best_text_kind cells c.of_kind.result c.least_of_two.result (4 * (c.args.to - c.args.from) + length c.joined.result.now) c.runs_size_of_texts-runs.result c.min-most.result
    (plain_text_size texts ∙ (ap (λ n. 4 * n + length (concat texts)) count ∙ ap (λ n. 4 * (c.args.to - c.args.from) + n) (sym joined)))
    (sym c.runs_size_of_texts-runs.ensures) (omega arith) c.min-most.ensures
    (subst (IsDictionaryWithin cells (body_size kind.Dict of_type.Text cells) c.min-most.result) c.in-None.is c.in_ok-dictionary.ensures) c.least_of_two.ensures c.of_kind.ensures.kind c.of_kind.ensures.dictionary
