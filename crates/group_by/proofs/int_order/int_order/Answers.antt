-- Proofs of the goals of `int_order` (`int_order`).
use Rattle.std.proofs.Common.{◌≡◌, ◌∙◌, ℕ, ℤ, List, Vec, Global, length, ap, sym, subst, map, ◌∷◌, []}
use Rattle.std.proofs.lemmas.List.{length-map}
use Rattle.std.proofs.lemmas.Result.{IfOk-weaker}
use Rattle.meaning.specs.declared.value.Value.TheVariants.{Int}
use Rattle.group_by.specs.declared.int_order.IntKey.{IntKey}
use Rattle.group_by.specs.KeyOrder.{key_in, AreIndexed, AreSorted}
use Rattle.group_keys.specs.Rows.{int_keys}
use Rattle.group_by.proofs.Sorting.{sorted_by}
use Rattle.group_by.proofs.int_order.int_order.Goals as goal

pub returns : goal.returns
returns c =
    let keys = int_keys c.args.ints.now in
    let new = c.sort.new.indexed.items in
    let long : length keys ≡ length c.args.ints.now = length-map c.args.ints.now (λ (z : ℤ). Int z ∷ []) in
    let are = subst (λ (n : ℕ). AreIndexed keys n c.in_ok-indexed.indexed.items) (sym long) c.in_ok-indexed.ensures in
    let sorted : AreSorted keys (map (λ (p : IntKey). p.group_index) new) =
    sorted_by keys key_in (λ (p : IntKey). p.group_index) c.in_ok-indexed.indexed.items c.reverse.new.self.items new
    are.indexes are.right c.reverse.ensures.items c.in_ok-sort.ensures.stable c.in_ok-sort.ensures.permutation
    in
    IfOk-weaker c.group_indexes.result _ _
    (λ (order : Vec ℕ Global) is. subst (λ (is : List ℕ). AreSorted keys is) (sym (is ∙ ap (map (λ (p : IntKey). p.group_index)) c.as_slice.ensures.value)) sorted)
    c.group_indexes.ensures
