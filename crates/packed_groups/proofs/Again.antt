-- What is packed is read again.
use Rattle.std.proofs.Common.{◌≡◌, ℕ, zero, suc, ◌^◌, ◌<◌, ◌≤◌, ltb, ℤ, pos, negsuc, Bool, true, false, cond, List, [], ◌∷◌, ◌++◌, length, Option, Some, None, Ok, refl, sym, ap, ◌∙◌, append_assoc, arith}
use Rattle.std.specs.Prelude.{FitsSigned, nat_le}
use Rattle.std.specs.Int.{w128}
use Rattle.std.proofs.lemmas.Bool.{ltb-true}
use Rattle.std.specs.List.{flat_map}
use Rattle.meaning.specs.declared.value.Value.{Value}
use Rattle.meaning.specs.declared.value.Value.TheVariants.{Null, Int, Text}
use Rattle.meaning.specs.Fitting.{is_sum_of}
use Rattle.aggregate_states.specs.State.{is_extreme, IsSumOf, most_entries}
use Rattle.wire.specs.Bytes.{number_bytes, i64_bytes, i128_bytes}
use Rattle.wire.proofs.Numbers.{number_again, bytes_again}
use Rattle.wire.proofs.Parts.{IsReadAgain, repeat_again, i64_again, i128_again}
use Rattle.answer_fields.specs.Spelling.{value_or_null}
use Rattle.answer_fields.specs.LayoutReading.{unless_null}
use Rattle.meaning.specs.declared.answer.Statistics.{Statistics}
use Rattle.packed_groups.specs.declared.parts.Parts.{Parts}
use Rattle.packed_groups.specs.declared.parts.Parts.TheVariants as parts
use Rattle.packed_groups.specs.Parts.{are_all, parts_in, parts_of_extremes, parts_of_sum, tag_of, unless_entries, unless_sum}
use Rattle.packed_groups.specs.Packing.{small_bytes, text_bytes, value_bytes, values_bytes, sum_bytes, parts_bytes, state_bytes, states_bytes, group_bytes}
use Rattle.packed_groups.specs.Reading.{tagged_small_at, small_at, text_at, tagged_value_at, value_at, values_at, tagged_sum_at, sum_at, all_parts_at, tagged_parts_at, state_at, states_at, group_at}
use Rattle.packed_groups.specs.Packable.{IsPackableValue, ArePackableValues, IsPackableState, ArePackableStates, IsPackableGroup}

-- ---- numbers and values

small_by : (n : ℕ) (rest : List ℕ) (b : Bool) → ltb n 255 ≡ b → n < 2 ^ 64
    → small_at (cond b (number_bytes 1 n) (number_bytes 1 255 ++ number_bytes 8 n) ++ rest) ≡ Ok (n, rest)
unfolding small_at tagged_small_at
small_by n rest true is fits =
    let few : n < 256 = omega (arith, ltb-true n 255 is) in
    rw (number_again 1 n rest few, is) refl
small_by n rest false is fits =
    ap small_at (append_assoc (number_bytes 1 255) (number_bytes 8 n) rest)
    ∙ rw (number_again 1 255 (number_bytes 8 n ++ rest) (omega arith), number_again 8 n rest fits) refl

pub small_again : IsReadAgain small_at small_bytes (λ n. n < 2 ^ 64)
unfolding small_bytes
small_again n rest fits = small_by n rest (ltb n 255) refl fits

text_again : (text rest : List ℕ) → IsPackableValue (Text text) → text_at (text_bytes text ++ rest) ≡ Ok (text, rest)
unfolding text_at text_bytes
text_again text rest fits =
    ap text_at (append_assoc (small_bytes (length text)) text rest)
    ∙ rw (small_again (length text) (text ++ rest) fits.1, bytes_again (length text) text rest refl, fits.0) refl

value_again : IsReadAgain value_at value_bytes IsPackableValue
unfolding value_at tagged_value_at value_bytes
value_again Null rest fits = rw (number_again 1 0 rest (omega arith)) refl
value_again (Int z) rest fits =
    ap value_at (append_assoc (number_bytes 1 1) (i64_bytes z) rest) ∙ rw (number_again 1 1 (i64_bytes z ++ rest) (omega arith), i64_again z rest fits) refl
value_again (Text t) rest fits =
    ap value_at (append_assoc (number_bytes 1 2) (text_bytes t) rest) ∙ rw (number_again 1 2 (text_bytes t ++ rest) (omega arith), text_again t rest fits) refl

values_again : IsReadAgain values_at values_bytes ArePackableValues
unfolding values_at values_bytes
values_again values rest fits =
    let each = flat_map value_bytes values in
    ap values_at (append_assoc (small_bytes (length values)) each rest)
    ∙ rw (small_again (length values) (each ++ rest) fits.few) (repeat_again value_at value_bytes IsPackableValue value_again (length values) values rest refl fits.each)

-- ---- states

sum_again : IsReadAgain sum_at sum_bytes (FitsSigned w128)
unfolding sum_at tagged_sum_at sum_bytes
sum_again (pos zero) rest fits = rw (number_again 1 0 rest (omega arith)) refl
sum_again (pos (suc n)) rest fits =
    ap sum_at (append_assoc (number_bytes 1 1) (i128_bytes (pos (suc n))) rest)
    ∙ rw (number_again 1 1 (i128_bytes (pos (suc n)) ++ rest) (omega arith), i128_again (pos (suc n)) rest fits) refl
sum_again (negsuc n) rest fits =
    ap sum_at (append_assoc (number_bytes 1 1) (i128_bytes (negsuc n)) rest)
    ∙ rw (number_again 1 1 (i128_bytes (negsuc n) ++ rest) (omega arith), i128_again (negsuc n) rest fits) refl

possible_sum : (count : ℕ) (sum : ℤ) → IsSumOf count sum → is_sum_of count sum ≡ true
possible_sum count sum is = grind arith

few_entries : (count : ℕ) → count ≤ most_entries → nat_le count most_entries ≡ true
few_entries count few = grind arith

-- no least or greatest value is NULL
extreme_back : (o : Option Value) → is_extreme o ≡ true → unless_null (value_or_null o) ≡ o
extreme_back None is = refl
extreme_back (Some Null) is = absurd cc
extreme_back (Some (Int z)) is = refl
extreme_back (Some (Text t)) is = refl

-- three parts and four parts in front of the rest
three : (a b c rest : List ℕ) → (a ++ b ++ c) ++ rest ≡ a ++ (b ++ (c ++ rest))
three a b c rest = append_assoc (a ++ b) c rest ∙ append_assoc a b (c ++ rest)

four : (a b c d rest : List ℕ) → (a ++ b ++ c ++ d) ++ rest ≡ a ++ (b ++ (c ++ (d ++ rest)))
four a b c d rest = append_assoc (a ++ b ++ c) d rest ∙ append_assoc (a ++ b) c (d ++ rest) ∙ append_assoc a b (c ++ (d ++ rest))

-- where not all parts are packed there are no entries
pub entries_none : (s : Statistics) (p : Parts) → are_all p ≡ false → p ≡ parts_in s → ArePackableValues s.entries
entries_none s p some is = go s.entries (parts_of_extremes s.sum s.least s.greatest) some is
  where
    go : (entries : List Value) (q : Parts) → are_all p ≡ false → p ≡ unless_entries entries q → ArePackableValues entries
    go [] q some is = record { few = omega arith; each = tt }
    go (v ∷ vs) q some is = let no : true ≡ false = sym (ap are_all is) ∙ some in absurd cc

all_again : (s : Statistics) (rest : List ℕ) → IsPackableState s → all_parts_at s.count (parts_bytes parts.All s ++ rest) ≡ Ok (s, rest)
unfolding all_parts_at parts_bytes
all_again s rest fits =
    let least = value_or_null s.least in
    let greatest = value_or_null s.greatest in
    let behind_greatest = values_bytes s.entries ++ rest in
    let behind_least = value_bytes greatest ++ behind_greatest in
    let behind_sum = value_bytes least ++ behind_least in
    ap (all_parts_at s.count) (four (sum_bytes s.sum) (value_bytes least) (value_bytes greatest) (values_bytes s.entries) rest)
    ∙ rw (
      sum_again s.sum behind_sum fits.sum,
      few_entries s.count fits.state.count,
      possible_sum s.count s.sum fits.state.sum,
      value_again least behind_least fits.least,
      value_again greatest behind_greatest fits.greatest,
      values_again s.entries rest fits.entries,
      extreme_back s.least fits.state.least,
      extreme_back s.greatest fits.state.greatest,
    ) refl

abbrev state_with : ℕ → ℤ → Option Value → Option Value → List Value → Statistics
state_with count sum least greatest entries = record { count = count; sum = sum; least = least; greatest = greatest; entries = entries }

abbrev PartsAgain : Statistics → List ℕ → Type 0
PartsAgain s rest = tagged_parts_at (tag_of (parts_in s)) s.count (parts_bytes (parts_in s) s ++ rest) ≡ Ok (s, rest)

parts_again : (count : ℕ) (sum : ℤ) (least greatest : Option Value) (entries : List Value) (rest : List ℕ) → IsPackableState (state_with count sum least greatest entries) → PartsAgain (state_with count sum least greatest entries) rest
unfolding tagged_parts_at parts_bytes parts_of_sum unless_sum
parts_again count (pos zero) None None [] rest fits = rw (few_entries count fits.state.count, possible_sum count (pos zero) fits.state.sum) refl
parts_again count (pos (suc n)) None None [] rest fits =
    rw (i128_again (pos (suc n)) rest fits.sum, few_entries count fits.state.count, possible_sum count (pos (suc n)) fits.state.sum) refl
parts_again count (negsuc n) None None [] rest fits =
    rw (i128_again (negsuc n) rest fits.sum, few_entries count fits.state.count, possible_sum count (negsuc n) fits.state.sum) refl
parts_again count (pos zero) (Some v) None [] rest fits =
    rw (value_again v rest fits.least, extreme_back (Some v) fits.state.least, few_entries count fits.state.count, possible_sum count (pos zero) fits.state.sum) refl
parts_again count (pos zero) None (Some v) [] rest fits =
    rw (value_again v rest fits.greatest, extreme_back (Some v) fits.state.greatest, few_entries count fits.state.count, possible_sum count (pos zero) fits.state.sum) refl
parts_again count (pos (suc n)) (Some v) None [] rest fits = all_again (state_with count (pos (suc n)) (Some v) None []) rest fits
parts_again count (negsuc n) (Some v) None [] rest fits = all_again (state_with count (negsuc n) (Some v) None []) rest fits
parts_again count (pos (suc n)) None (Some v) [] rest fits = all_again (state_with count (pos (suc n)) None (Some v) []) rest fits
parts_again count (negsuc n) None (Some v) [] rest fits = all_again (state_with count (negsuc n) None (Some v) []) rest fits
parts_again count sum (Some v) (Some w) [] rest fits = all_again (state_with count sum (Some v) (Some w) []) rest fits
parts_again count sum least greatest (x ∷ xs) rest fits = all_again (state_with count sum least greatest (x ∷ xs)) rest fits

a_byte : (p : Parts) → tag_of p < 256
a_byte parts.Count = omega arith
a_byte parts.Sum = omega arith
a_byte parts.Least = omega arith
a_byte parts.Greatest = omega arith
a_byte parts.All = omega arith

state_again : IsReadAgain state_at state_bytes IsPackableState
unfolding state_at state_bytes
state_again s rest fits =
    let p = parts_in s in
    let narrow : s.count < 2 ^ 64 = omega (arith, fits.state.count) in
    ap state_at (three (number_bytes 1 (tag_of p)) (small_bytes s.count) (parts_bytes p s) rest)
    ∙ rw (number_again 1 (tag_of p) (small_bytes s.count ++ (parts_bytes p s ++ rest)) (a_byte p), small_again s.count (parts_bytes p s ++ rest) narrow)
    (parts_again s.count s.sum s.least s.greatest s.entries rest fits)

-- ---- groups

states_again : IsReadAgain states_at states_bytes ArePackableStates
unfolding states_at states_bytes
states_again states rest fits =
    let each = flat_map state_bytes states in
    ap states_at (append_assoc (small_bytes (length states)) each rest)
    ∙ rw (small_again (length states) (each ++ rest) fits.few) (repeat_again state_at state_bytes IsPackableState state_again (length states) states rest refl fits.each)

pub group_again : IsReadAgain group_at group_bytes IsPackableGroup
unfolding group_at group_bytes
group_again g rest fits =
    let states = states_bytes g.states ++ rest in
    ap group_at (three (values_bytes g.key) (small_bytes g.rows) (states_bytes g.states) rest)
    ∙ rw (values_again g.key (small_bytes g.rows ++ states) fits.key, small_again g.rows states fits.rows, states_again g.states rest fits.states) refl
