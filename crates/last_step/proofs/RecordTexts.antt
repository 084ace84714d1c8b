-- A record as the definitions spell it is a record as the crate `csv` spells it.
use Rattle.std.specs.Prelude.{◌≡◌, ℕ, suc, ◌==◌, ◌||◌, Bool, true, false, cond, List, [], ◌∷◌, ◌++◌, flat_map, length}
use Rattle.std.specs.List.{list_any}
use Rattle.std.proofs.Common.{refl, ap, ◌∙◌, arith}
use Rattle.std.proofs.lemmas.Bool.{eqb-true}
use Rattle.csv.specs.Writing.{escaped, fields_text, is_blank, row_text, needs_byte}
use Rattle.csv.specs.Writing as csv
use Rattle.last_step.specs.Printing.{record_writer}
use Rattle.meaning.specs.Print.{calls_for_quotes, field_text, record_text}

or_false : (a : Bool) → ((a || false) || false) ≡ a
or_false true = refl
or_false false = refl

or_assoc : (a b c : Bool) → (a || (b || c)) ≡ ((a || b) || c)
or_assoc true b c = refl
or_assoc false b c = refl

same_byte : (b : ℕ) → needs_byte record_writer b ≡ calls_for_quotes b
same_byte b = or_false ((b == 44) || (b == 34) || ((b == 13) || (b == 10))) ∙ or_assoc ((b == 44) || (b == 34)) (b == 13) (b == 10)

same_need : (field : List ℕ) → list_any (needs_byte record_writer) field ≡ list_any calls_for_quotes field
same_need [] = refl
same_need (b ∷ bs) = λ i. same_byte b i || same_need bs i

same_escaped : (field : List ℕ) → escaped record_writer field ≡ flat_map (λ b. cond (b == 34) (34 ∷ 34 ∷ []) (b ∷ [])) field
unfolding escaped
same_escaped [] = refl
same_escaped (b ∷ bs) = elim (b == 34) as (λ t. b == 34 ≡ t → cond t (34 ∷ b ∷ escaped record_writer bs) (b ∷ escaped record_writer bs) ≡ cond t (34 ∷ 34 ∷ []) (b ∷ []) ++ flat_map (λ b. cond (b == 34) (34 ∷ 34 ∷ []) (b ∷ [])) bs) [
  | true ↦ λ e i. 34 ∷ eqb-true b 34 e i ∷ same_escaped bs i
  | false ↦ λ e. ap (λ rest. b ∷ rest) (same_escaped bs)
] refl

same_field : (field : List ℕ) → csv.field_text record_writer field ≡ field_text field
same_field field = λ i. cond (same_need field i) (34 ∷ (same_escaped field i ++ 34 ∷ [])) field

same_fields : (fields : List (List ℕ)) → fields_text record_writer fields ≡ flat_map (λ f. 44 ∷ [] ++ field_text f) fields
unfolding fields_text
same_fields [] = refl
same_fields (f ∷ fs) = λ i. 44 ∷ (same_field f i ++ same_fields fs i)

suc_not_zero : (n : ℕ) → (suc n == 0) ≡ false
suc_not_zero n = grind arith

not_blank : (b : ℕ) (bs : List ℕ) → is_blank record_writer ((b ∷ bs) ∷ []) ≡ false
unfolding is_blank
not_blank b bs = elim (list_any (needs_byte record_writer) (b ∷ bs)) as (λ t. (length (cond t (csv.quoted record_writer (b ∷ bs)) (b ∷ bs)) == 0) ≡ false) [ true ↦ suc_not_zero _ | false ↦ suc_not_zero _ ]

several : (f g : List ℕ) (fs : List (List ℕ)) → is_blank record_writer (f ∷ g ∷ fs) ≡ false
unfolding is_blank
several f g fs = refl

body : (f : List ℕ) (fs : List (List ℕ)) → is_blank record_writer (f ∷ fs) ≡ false → row_text record_writer (f ∷ fs) ≡ (field_text f ++ flat_map (λ g. 44 ∷ [] ++ field_text g) fs) ++ 10 ∷ []
body f fs full = λ i. (same_field f i ++ same_fields fs i) ++ (cond (full i) (34 ∷ 34 ∷ []) [] ++ 10 ∷ [])

-- a record of the definitions is a record of the printer's writer
pub same_record : (f : List ℕ) (fs : List (List ℕ)) → row_text record_writer (f ∷ fs) ≡ record_text (f ∷ fs)
unfolding is_blank fields_text
same_record [] [] = refl
same_record [] (g ∷ fs) = body [] (g ∷ fs) (several [] g fs)
same_record (b ∷ bs) [] = body (b ∷ bs) [] (not_blank b bs)
same_record (b ∷ bs) (g ∷ fs) = body (b ∷ bs) (g ∷ fs) (several (b ∷ bs) g fs)
