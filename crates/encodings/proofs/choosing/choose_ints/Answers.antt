-- Proofs of the goals of `choose_ints` (`choosing`).
use Rattle.std.proofs.Common.{◌≡◌, ◌*◌, ◌∙◌, ap, sym, subst, length, map, arith}
use Rattle.std.specs.Prelude.{min}
use Rattle.std.proofs.lemmas.List.{length-map}
use Rattle.meaning.specs.declared.value.ColType.TheVariants as of_type
use Rattle.meaning.specs.declared.value.Value.TheVariants.{Int}
use Rattle.blocks.specs.declared.kind.Kind.TheVariants as kind
use Rattle.encodings.specs.Choice.{IsDictionaryWithin}
use Rattle.encodings.specs.Choosing.{body_size}
use Rattle.encodings.proofs.ChosenKinds.{best_int_dictionary, best_int_kind}
use Rattle.encodings.proofs.choosing.choose_ints.Goals as goal

pub returns-in-Some : goal.returns-in-Some
returns-in-Some c =
    let cells = map Int c.args.ints.now in
    let plain : body_size kind.Plain of_type.Int cells ≡ 8 * length c.args.ints.now = ap (λ n. 8 * n) (length-map c.args.ints.now (λ n. Int n)) in
    best_int_dictionary cells c.of_dictionary.result c.in-Some.dictionary (8 * length c.args.ints.now) c.runs_size_of_ints-runs.result c.frame_size-frame.result c.min-most.result
    plain (sym c.runs_size_of_ints-runs.ensures) (sym c.frame_size-frame.ensures) (omega arith) (c.min-most.ensures ∙ ap (λ n. min n c.frame_size-frame.result) c.min.ensures)
    (subst (IsDictionaryWithin cells (body_size kind.Dict of_type.Int cells) c.min-most.result) c.in-Some.is c.in_ok-dictionary.ensures) c.of_dictionary.ensures.kind c.of_dictionary.ensures.dictionary

pub returns-in-None : goal.returns-in-None
returns-in-None c =
    let cells = map Int c.args.ints.now in
    let plain : body_size kind.Plain of_type.Int cells ≡ 8 * length c.args.ints.now = ap (λ n. 8 * n) (length-map c.args.ints.now (λ n. Int n)) in
    best_int_kind cells c.of_kind.result c.least_of_others.result (8 * length c.args.ints.now) c.runs_size_of_ints-runs.result c.frame_size-frame.result c.min-most.result
    plain (sym c.runs_size_of_ints-runs.ensures) (sym c.frame_size-frame.ensures) (omega arith) (c.min-most.ensures ∙ ap (λ n. min n c.frame_size-frame.result) c.min.ensures)
    (subst (IsDictionaryWithin cells (body_size kind.Dict of_type.Int cells) c.min-most.result) c.in-None.is c.in_ok-dictionary.ensures) c.least_of_others.ensures c.of_kind.ensures.kind c.of_kind.ensures.dictionary
