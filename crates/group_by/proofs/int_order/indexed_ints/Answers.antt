-- Proofs of the goals of `indexed_ints` (`int_order`).
use Rattle.std.proofs.Common.{◌+◌, ◌<◌, ℕ, ℤ, pos, List, length, subst, sym, ◌∙◌, ◌∷◌, []}
use Rattle.std.proofs.lemmas.List.{length-map, get_or-map}
use Rattle.meaning.specs.declared.value.Value.TheVariants.{Int}
use Rattle.meaning.specs.Order.{Row}
use Rattle.group_by.specs.declared.int_order.IntKey.{IntKey}
use Rattle.group_by.specs.KeyOrder.{AreIndexed}
use Rattle.group_keys.specs.Rows.{int_keys}
use Rattle.group_by.proofs.IntKeys.{one_indexed}
use Rattle.group_by.proofs.int_order.indexed_ints.Goals as goal

pub loop-k-preserved : goal.loop-k-preserved
loop-k-preserved c =
    let ints = c.args.ints.now in
    let k = c.loop-k.k in
    let p = c.int_key-one.result in
    let one : ℤ → Row = λ (z : ℤ). Int z ∷ [] in
    let is_key = c.int_key-one.ensures.key ∙ sym (get_or-map one ints k (pos 0) [] c.loop-k-test.true) in
    subst (λ (ps : List IntKey). AreIndexed (int_keys ints) (k + 1) ps) (sym c.in_ok-push.ensures.items)
    (one_indexed (int_keys ints) k p c.int_key-one.ensures.group_index is_key c.loop-k.indexed.items c.loop-k.invariant)
