-- Integers and the bytes of texts are ordered as the values that they are.
use Rattle.std.specs.Prelude.{◌≡◌, ℕ, ℤ, nat_eq, List, refl}
use Rattle.std.proofs.Common.{sym, ap}
use Rattle.std.proofs.lemmas.Map.Text.{is_eq-slice_cmp}
use Rattle.std.specs.declared.cmp.Ordering.{Ordering}
use Rattle.std.specs.declared.cmp.Ordering.TheVariants.{Less, Equal, Greater}
use Rattle.std.specs.Ordering.{int_cmp, int_eq, nat_cmp, is_eq, ordering_then}
use Rattle.std.specs.Cmp.Lexicographic.{slice_cmp, pointwise}
use Rattle.meaning.specs.declared.value.Value.TheVariants.{Int, Text}
use Rattle.meaning.specs.Order.{value_cmp, same_value}

then_equal : (r : Ordering) → r ≡ ordering_then r Equal
then_equal Less = refl
then_equal Equal = refl
then_equal Greater = refl

pub int_order : (a b : ℤ) → int_cmp a b ≡ value_cmp (Int a) (Int b)
int_order a b = then_equal (int_cmp a b)

pub int_same : (a b : ℤ) → int_eq a b ≡ same_value (Int a) (Int b)
int_same a b = ap is_eq (then_equal (int_cmp a b))

pub text_order : (s t : List ℕ) → slice_cmp nat_cmp s t ≡ value_cmp (Text s) (Text t)
text_order s t = refl

pub text_same : (s t : List ℕ) → pointwise nat_eq s t ≡ same_value (Text s) (Text t)
text_same s t = sym (is_eq-slice_cmp s t)
