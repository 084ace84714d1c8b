-- Proofs of the goals of `plan_query` (`query_text`).
use Rattle.planner.proofs.PlannedTexts.{planned_of_text, refused_of_text, sound_as_planned}
use Rattle.planner.proofs.query_text.plan_query.Goals as goal

pub returns-clause-planned : goal.returns-clause-planned
returns-clause-planned c = planned_of_text c.args.catalog.now c.args.query.now c.in_ok-tree.tree c.in_ok-tree.ensures.tree c.plan_tree-planned.result c.plan_tree-planned.ensures.planned

pub returns-clause-sound : goal.returns-clause-sound
returns-clause-sound c = sound_as_planned c.args.catalog.now c.args.query.now c.plan_tree-planned.result (returns-clause-planned c)

pub returns-clause-refused : goal.returns-clause-refused
returns-clause-refused c = refused_of_text c.args.catalog.now c.args.query.now c.in_ok-tree.tree c.in_ok-tree.ensures.tree c.plan_tree-planned.result c.plan_tree-planned.ensures.refused
