-- Proofs of the goals of `push_int` (`key_list`).
use Rattle.std.proofs.Common.{rules, ◌≡◌, ◌∷◌, ◌++◌, [], List, ℕ, length, subst}
use Rattle.meaning.specs.declared.value.Value.TheVariants.{Int}
use Rattle.group_keys.specs.Keys.{rows_in, LeadsTo}
use Rattle.group_keys.proofs.CloseInts.{entered}
use Rattle.group_keys.proofs.key_list.KeyList.push_int.Goals as goal

pub invariant_of-self : goal.invariant_of-self
invariant_of-self c =
    let inside = c.self.inside in
    let keys = rows_in inside.held in
    let old = c.args.self.now in
    let is : keys ≡ old ++ (Int c.args.int.now ∷ []) ∷ [] = search rules in
    let at : c.len-group_index.result ≡ length old = search rules in
    let full : length inside.close.items ≡ inside.close.len = search rules in
    let same : length c.enter.new.entries ≡ inside.close.len = search rules in
    let leads : LeadsTo inside.least inside.close.items keys = c.self.invariant.leads in
    let same_entries : inside.close.items ≡ c.as_mut_slice.result.now = search rules in
    let lent : LeadsTo inside.least c.as_mut_slice.result.now keys = subst (λ (es : List ℕ). LeadsTo inside.least es keys) same_entries leads in
    record {
      leads = entered inside.least inside.close.items c.enter.new.entries inside.close.len old keys c.args.int.now c.len-group_index.result is at full same (c.enter.ensures keys lent);
      ascend = c.self.invariant.ascend;
    }
