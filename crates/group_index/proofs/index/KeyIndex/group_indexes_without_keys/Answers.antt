-- Proofs of the goals of `group_indexes_without_keys` (`index`).
use Rattle.std.proofs.Common.{rules, arith, ◌≡◌, ◌<◌, ◌-◌, ℕ, suc, [], ap, length, replicate, subst}
use Rattle.meaning.specs.Order.{Row}
use Rattle.group_index.specs.Found.{IsFound}
use Rattle.group_index.proofs.Finding.{found_without_keys}
use Rattle.group_index.proofs.index.KeyIndex.group_indexes_without_keys.Goals as goal

pub returns : goal.returns
returns c =
    let list = c.args.selection.now.list in
    let old = c.args.self.now.keys in
    let new = c.group_index_of_row.new.self.keys in
    let group_index = c.in_ok-group_index.group_index in
    let some : 0 < length list = search rules in
    let many : suc (c.len-2.result - 1) ≡ length list = let e = c.len-2.ensures.value in omega (arith, some, e) in
    let found : IsFound [] old group_index new = subst (λ (key : Row). IsFound key old group_index new) c.new-key.ensures c.in_ok-group_index.ensures in
    found_without_keys list old new group_index (replicate (suc (c.len-2.result - 1)) group_index) some (ap (λ (n : ℕ). replicate n group_index) many) found
