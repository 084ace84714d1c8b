-- Proofs of the goals of `plain_texts` (`plain_texts`).
use Rattle.std.proofs.Common.{refl, ap, sym, ◌∙◌, List, ℕ, Bor}
use Rattle.std.proofs.lemmas.List.{length-map}
use Rattle.meaning.specs.declared.value.Value.TheVariants.{Text}
use Rattle.vectors.specs.Vector.{values_of}
use Rattle.aggregate_states.proofs.Plain.{plain_long, plain_selected}
use Rattle.group_keys.proofs.Texts.{read}
use Rattle.group_keys.proofs.plain_texts.plain_texts.Goals as goal

pub returns-clause-value : goal.returns-clause-value
returns-clause-value c =
    plain_selected Text (read c.in_ok-cells.cells.now) (values_of c.args.lanes.now) c.args.selection.now (c.in_ok-cells.ensures ∙ sym (ap values_of c.in-Texts.is)) (c.in-None.ensures.all refl) c.requires

pub returns-clause-whole : goal.returns-clause-whole
returns-clause-whole c = c.in_ok-cells.ensures ∙ sym (ap values_of c.in-Texts.is)

pub returns-clause-long : goal.returns-clause-long
returns-clause-long c =
    let cells = c.in_ok-cells.cells.now in
    sym (length-map cells (λ (t : Bor (List ℕ)). t.now))
    ∙ plain_long Text (read cells) (values_of c.args.lanes.now) c.args.selection.now (c.in_ok-cells.ensures ∙ sym (ap values_of c.in-Texts.is)) (c.in-None.ensures.all refl) c.requires
