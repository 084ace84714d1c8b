-- Types of values, by what the code asks of them.
use Rattle.std.proofs.Common.{◌≡◌, ℕ, ℤ, true, ◌&&◌, eqb, List, length, refl}
use Rattle.std.specs.Prelude.{not, nat_le}
use Rattle.std.specs.Str.{is_utf8}
use Rattle.meaning.specs.declared.value.ColType.{ColType}
use Rattle.meaning.specs.declared.value.ColType.TheVariants as of_type
use Rattle.meaning.specs.declared.value.Value.TheVariants.{Int, Text}
use Rattle.meaning.specs.Limits.{max_text_bytes}
use Rattle.meaning.specs.Operators.{fits_i64}
use Rattle.meaning.specs.Typing.{is_of_type}
use Rattle.meaning.specs.TypeCodes.{type_code}

pub integer_type : (t : ColType) (n : ℤ) → fits_i64 n ≡ true → eqb (type_code t) 1 ≡ is_of_type t (Int n)
integer_type of_type.Int n fits = rw fits refl
integer_type of_type.Text n fits = refl

pub text_type : (t : ColType) (text : List ℕ) → is_utf8 text ≡ true → (not (eqb (type_code t) 1) && nat_le (length text) max_text_bytes) ≡ is_of_type t (Text text)
text_type of_type.Int text utf8 = refl
text_type of_type.Text text utf8 = rw utf8 refl
