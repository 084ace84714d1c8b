-- Proofs of the goals of `add_groups` (`table`).
use Rattle.std.proofs.Common.{ℕ, ◌+◌, take, subst, sym, arith}
use Rattle.group_by.specs.GroupIndexes.{AreAbsorbed}
use Rattle.group_by.proofs.Absorbing.{MayTake, none_absorbed, few_next, takes_next, absorbed_next}
use Rattle.group_by.proofs.table.add_groups.Goals as goal

pub loop-group-init : goal.loop-group-init
loop-group-init c = none_absorbed c.args.index.now.keys c.args.rows.now.items c.args.columns.now.items c.args.taken

takes : (c : goal.After-add_group-arg-in-loop-group-2-1) → MayTake c.group-item.result c.loop-group.index.keys c.loop-group.rows.items c.loop-group.columns.items
takes c =
    takes_next c.args.groups.now c.loop-group.group-index c.group-item.result c.args.index.now.keys c.args.rows.now.items c.args.columns.now.items c.args.taken
    c.loop-group.index.keys c.loop-group.rows.items c.loop-group.columns.items c.loop-group.total
    c.requires.well_formed c.requires.fit c.requires.few c.loop-group-test.true c.group-item.is c.loop-group.invariant

pub add_group-requires-clause-widths : goal.add_group-requires-clause-widths
add_group-requires-clause-widths c = (takes c).widths

pub add_group-requires-clause-counted : goal.add_group-requires-clause-counted
add_group-requires-clause-counted c = (takes c).counted

pub add_group-requires-clause-heights : goal.add_group-requires-clause-heights
add_group-requires-clause-heights c = (takes c).heights

pub add_group-requires-clause-few : goal.add_group-requires-clause-few
add_group-requires-clause-few c = (takes c).few

pub add_group-requires-clause-states : goal.add_group-requires-clause-states
add_group-requires-clause-states c = (takes c).states

pub overflow_add-total : goal.overflow_add-total
overflow_add-total c =
    let few = few_next c.args.groups.now c.loop-group.group-index c.group-item.result c.args.index.now.keys c.args.rows.now.items c.args.columns.now.items c.args.taken
    c.loop-group.index.keys c.loop-group.rows.items c.loop-group.columns.items c.loop-group.total
    c.requires.well_formed c.requires.fit c.requires.few c.loop-group-test.true c.group-item.is c.loop-group.invariant in
    let rows = c.rows-total.ensures in
    omega (arith, few, rows)

pub loop-group-preserved : goal.loop-group-preserved
loop-group-preserved c =
    let k = c.loop-group.group-index in
    let new = c.add_group.new in
    subst (λ (n : ℕ). AreAbsorbed (take (k + 1) c.args.groups.now) c.args.index.now.keys c.args.rows.now.items c.args.columns.now.items c.args.taken new.index.keys new.rows.items new.columns.items (c.loop-group.total + n))
    (sym c.rows-total.ensures)
    (absorbed_next c.args.groups.now k c.group-item.result c.args.index.now.keys c.args.rows.now.items c.args.columns.now.items c.args.taken
    c.loop-group.index.keys c.loop-group.rows.items c.loop-group.columns.items c.loop-group.total
    c.requires.well_formed c.requires.fit c.requires.few c.loop-group-test.true c.group-item.is c.loop-group.invariant
    new.index.keys new.rows.items new.columns.items c.in_ok-add_group.ensures)
