-- Proofs of the goals of `absorb_groups` (`table`).
use Rattle.std.proofs.Common.{◌≡◌, false, get_or, ap, arith, ◌∙◌}
use Rattle.group_by.specs.Shape.{GroupsSpec, shape_with}
use Rattle.group_by.specs.Groups.{with_groups}
use Rattle.group_by.proofs.Absorbing.{fits_as, none_certain}
use Rattle.group_by.proofs.Batches.{kinds_of}
use Rattle.group_by.proofs.table.GroupTable.absorb_groups.Goals as goal

pub add_groups-requires-clause-well_formed : goal.add_groups-requires-clause-well_formed
add_groups-requires-clause-well_formed c =
    let t = c.self.inside in
    none_certain t.is_certain t.index.keys t.rows.items t.columns.items t.taken c.self.invariant

pub add_groups-requires-clause-fit : goal.add_groups-requires-clause-fit
add_groups-requires-clause-fit c =
    let none = shape_with false (kinds_of c.self.inside.columns.items) in
    λ i d here. fits_as none c.args.self.shape (get_or c.args.groups.now i d) (ap (λ (s : GroupsSpec). s.shape.kinds) c.self.view_is) (c.requires.fit i d here)

pub add_groups-requires-clause-few : goal.add_groups-requires-clause-few
add_groups-requires-clause-few c =
    let taken : c.self.inside.taken ≡ c.args.self.rows = ap (λ (s : GroupsSpec). s.rows) c.self.view_is in
    let few = c.requires.few in
    omega (arith, few, taken)

pub invariant_of-result : goal.invariant_of-result
invariant_of-result c = c.in-Ok.ensures.well_formed c.self.inside.is_certain c.self.invariant

pub returns-in-Ok : goal.returns-in-Ok
returns-in-Ok c =
    let t = c.self.inside in
    c.in-Ok.ensures.table t.is_certain c.self.invariant t.handed ∙ ap (λ (s : GroupsSpec). with_groups s c.args.groups.now) c.self.view_is
