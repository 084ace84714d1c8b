-- Proofs of the goals of `is_text` (`key_list`).
use Rattle.std.proofs.Common.{rules, ◌≡◌, ◌<◌, ◌∷◌, [], List, length, get_or, subst}
use Rattle.meaning.specs.declared.value.Value.TheVariants.{Text}
use Rattle.meaning.specs.Order.{Row}
use Rattle.group_keys.specs.Rows.{int_keys}
use Rattle.group_keys.proofs.IntKeys.{int_is_no_text}
use Rattle.group_keys.proofs.key_list.KeyList.is_text.Goals as goal

pub returns-in-Ints-clause-apart : goal.returns-in-Ints-clause-apart
returns-in-Ints-clause-apart c = λ within is.
    let ints = c.in-Ints.field-0.items in
    let at = c.args.group_index in
    let text = c.args.text.now in
    let keys : c.args.self.now ≡ int_keys ints = search rules in
    absurd (int_is_no_text ints at text (subst (λ (rows : List Row). at < length rows) keys within)
    (subst (λ (rows : List Row). get_or rows at [] ≡ Text text ∷ []) keys is))
