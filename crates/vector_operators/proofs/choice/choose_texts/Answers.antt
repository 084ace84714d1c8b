-- Proofs of the goals of `choose_texts` (`choice`).
use Rattle.std.proofs.Common.{[], ◌∙◌, map}
use Rattle.std.proofs.lemmas.List.{length-map}
use Rattle.meaning.specs.declared.value.Value.TheVariants.{Text}
use Rattle.vector_operators.proofs.Choosing.{chosen_lanes, chosen_long}
use Rattle.vector_operators.proofs.choice.choose_texts.Goals as goal

pub returns-clause-long : goal.returns-clause-long
returns-clause-long c =
    chosen_long Text [] c.args.mask.now c.args.these.now c.args.those.now (map (λ t. t.now) c.in_ok-cells.cells.items) c.in_ok-nulls.nulls
    (length-map c.in_ok-cells.cells.items (λ t. t.now) ∙ c.in_ok-cells.ensures.long) c.in_ok-nulls.ensures c.new.result c.new.ensures

pub returns-clause-value : goal.returns-clause-value
returns-clause-value c = λ of_these of_those.
    chosen_lanes Text [] c.args.mask.now c.args.these.now c.args.those.now (map (λ t. t.now) c.in_ok-cells.cells.items) c.in_ok-nulls.nulls
    (length-map c.in_ok-cells.cells.items (λ t. t.now) ∙ c.in_ok-cells.ensures.long) c.in_ok-nulls.ensures c.new.result c.new.ensures (c.in_ok-cells.ensures.value of_these of_those)
