-- Proofs of the goals of `count_lanes` (`marks`).
use Rattle.std.proofs.Common.{◌≡◌, ◌∙◌, ℕ, Bool, List, length, if◌then◌else◌, ap, sym, arith}
use Rattle.meaning.specs.declared.value.Value.{Value}
use Rattle.block_predicates.proofs.EntryKinds.{few_lanes, lent_are}
use Rattle.block_predicates.proofs.marks.count_lanes.Goals as goal

pub overflow_add-result : goal.overflow_add-result
overflow_add-result c =
    let b = c.args.block.now in
    let few = few_lanes b c.len-rows.ensures.sound in
    let same = c.len.ensures ∙ ap (λ (vs : List Value). length vs) (lent_are b c.args.entries.now c.requires) in
    record { fits = omega (arith, few, same) }

pub returns-then-nullable-clause-few : goal.returns-then-nullable-clause-few
returns-then-nullable-clause-few c =
    let b = c.args.block.now in
    let few = few_lanes b c.len-rows.ensures.sound in
    let same = c.len.ensures ∙ ap (λ (vs : List Value). length vs) (lent_are b c.args.entries.now c.requires) in
    let more : ◌≡◌ {A = ℕ} (if b.nullable then 1 else 0) 1 = ap (λ (n : Bool). if n then 1 else 0) (sym c.nullable.ensures ∙ c.if-nullable.true) in
    omega (arith, few, same, more)

pub returns-clause-few : goal.returns-clause-few
returns-clause-few c =
    let b = c.args.block.now in
    let few = few_lanes b c.len-rows.ensures.sound in
    let same = c.len-2.ensures ∙ ap (λ (vs : List Value). length vs) (lent_are b c.args.entries.now c.requires) in
    omega (arith, few, same)
