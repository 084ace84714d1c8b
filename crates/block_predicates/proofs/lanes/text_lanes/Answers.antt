-- Proofs of the goals of `text_lanes` (`lanes`).
use Rattle.std.proofs.Common.{map, ap, ◌∙◌}
use Rattle.meaning.specs.declared.outcome.Outcome.TheVariants as gives
use Rattle.block_predicates.specs.Entries.{lanes_of, values_in}
use Rattle.block_predicates.proofs.LaneLists.{text_lanes_are}
use Rattle.block_predicates.proofs.lanes.text_lanes.Goals as goal

pub returns-clause-values : goal.returns-clause-values
returns-clause-values c =
    ap (map gives.Value) c.new.ensures
    ∙ text_lanes_are (lanes_of (values_in c.args.entries.now) c.args.count) c.in_ok-nulls.nulls.items (map (λ t. t.now) c.in_ok-texts.texts.items) c.requires c.in_ok-nulls.ensures c.in_ok-texts.ensures
