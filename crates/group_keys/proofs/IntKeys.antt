-- Keys that are integers alone.
use Rattle.std.specs.Prelude.{◌≡◌, ℕ, ℤ, ◌<◌, pos, List, [], ◌∷◌, length, get_or}
use Rattle.std.proofs.Common.{subst, ◌∙◌}
use Rattle.meaning.specs.declared.value.Value.TheVariants.{Int, Text}
use Rattle.group_keys.specs.Rows.{int_keys}
use Rattle.group_keys.proofs.KeyRows.{int_key_at, int_keys_long}

no_text : (z : ℤ) (text : List ℕ) → Int z ∷ [] ≡ Text text ∷ [] → ⊥
no_text z text e = cc

-- none of them is a text
pub int_is_no_text : (ints : List ℤ) (at : ℕ) (text : List ℕ) → at < length (int_keys ints) → get_or (int_keys ints) at [] ≡ Text text ∷ [] → ⊥
int_is_no_text ints at text within is =
    no_text (get_or ints at (pos 0)) text (int_key_at ints at (pos 0) (subst (λ (n : ℕ). at < n) (int_keys_long ints) within) ∙ is)
