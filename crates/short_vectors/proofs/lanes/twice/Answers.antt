-- Proofs of the goals of `twice` (`lanes`).
use Rattle.std.proofs.Common.{◌≡◌, ℕ, zero, suc, All, List, [], ◌∷◌, subst, sym, true, arith}
use Rattle.std.specs.Str.{is_utf8}
use Rattle.std.proofs.lemmas.Str.{is_utf8-from_IsUtf8}
use Rattle.meaning.specs.declared.value.Value.{Value}
use Rattle.meaning.specs.declared.value.Value.TheVariants.{Text}
use Rattle.aggregate_states.specs.Values.{is_spelled}
use Rattle.short_vectors.proofs.lanes.twice.Goals as goal

both_spelled : (t : List ℕ) → is_utf8 t ≡ true → All (λ v. is_spelled v ≡ true) (Text t ∷ Text t ∷ [])
both_spelled t utf8 zero d within = utf8
both_spelled t utf8 (suc zero) d within = utf8
both_spelled t utf8 (suc (suc k)) d within = absurd (omega (arith, within))

pub returns-clause-spelled : goal.returns-clause-spelled
returns-clause-spelled c =
    subst (λ (vs : List Value). All (λ v. is_spelled v ≡ true) vs) (sym c.new.ensures) (both_spelled c.as_bytes.result.now (is_utf8-from_IsUtf8 _ c.as_bytes.ensures.utf8))
