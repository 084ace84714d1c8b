-- The first bytes of a text, which may be a byte order mark, and reads.
use Rattle.std.proofs.Common.{◌≡◌, ◌∙◌, ℕ, zero, suc, List, [], ◌∷◌, ◌++◌, take, Option, Some, None, refl, sym, ap, arith}
use Rattle.std.specs.Prelude.{IfOk, MatchOption, Result, Ok, Err}
use borrow.Author.Tests.{ne_eqb}
use Rattle.csv.specs.Reading.{strip_bom}
use Rattle.csv.specs.declared.parser.State.TheVariants as st
use Rattle.loader.specs.declared.counted.Counted.{Counted}
use Rattle.loader.specs.declared.fault.LoadFault.{LoadFault}
use Rattle.loader.specs.Counting.{GoesOn, Reads, counted_with, records_left}

pub one_short : (a : ℕ) → strip_bom (a ∷ []) ≡ a ∷ []
unfolding strip_bom
one_short a = refl

pub two_short : (a b : ℕ) → strip_bom (a ∷ b ∷ []) ≡ a ∷ b ∷ []
unfolding strip_bom
two_short a b = refl

pub none_short : strip_bom [] ≡ []
unfolding strip_bom
none_short = refl

pub marked : (rest : List ℕ) → strip_bom (0xEF ∷ 0xBB ∷ 0xBF ∷ rest) ≡ rest
unfolding strip_bom
marked rest = refl

pub other_third : (c : ℕ) (rest : List ℕ) → (c ≡ 0xBF → ⊥) → strip_bom (0xEF ∷ 0xBB ∷ c ∷ rest) ≡ 0xEF ∷ 0xBB ∷ c ∷ rest
unfolding strip_bom
other_third c rest not_so = let other = ne_eqb c 0xBF not_so in rw other refl

pub other_second : (b : ℕ) (rest : List ℕ) → (b ≡ 0xBB → ⊥) → strip_bom (0xEF ∷ b ∷ rest) ≡ 0xEF ∷ b ∷ rest
unfolding strip_bom
other_second b [] not_so = refl
other_second b (c ∷ rest) not_so = let other = ne_eqb b 0xBB not_so in rw other refl

pub other_first : (a : ℕ) (rest : List ℕ) → (a ≡ 0xEF → ⊥) → strip_bom (a ∷ rest) ≡ a ∷ rest
unfolding strip_bom
other_first a [] not_so = refl
other_first a (b ∷ []) not_so = refl
other_first a (b ∷ c ∷ rest) not_so = let other = ne_eqb a 0xEF not_so in rw other refl

-- what was read where there was no byte, and where there was one
pub none_read : (left : Option (List ℕ)) (bytes : List ℕ) (found : Option ℕ) → found ≡ None → MatchOption found (Reads left bytes []) (λ byte. Reads left bytes (byte ∷ [])) → (left ≡ Some []) × (bytes ≡ [])
none_read left bytes None e (rest, is, whole, end) =
    let none = end refl in
    (is ∙ ap (λ (xs : List ℕ). Some xs) none, whole ∙ none)
none_read left bytes (Some b) e read = cc e

pub one_read : (left : Option (List ℕ)) (bytes : List ℕ) (found : Option ℕ) (byte : ℕ) → found ≡ Some byte → MatchOption found (Reads left bytes []) (λ b. Reads left bytes (b ∷ [])) → (rest : List ℕ) × (left ≡ Some rest) × (bytes ≡ byte ∷ rest)
one_read left bytes None byte e read = cc e
one_read left bytes (Some b) byte e (rest, is, whole, end) =
    let same : b ≡ byte = cc e in
    (rest, is, whole ∙ ap (λ (x : ℕ). x ∷ rest) same)

module _ {R : Type 0} (known : R → Option (List ℕ)) (reader : R) (counted : Counted) (front : List ℕ) (is_front : (r : List ℕ) → counted_with counted r ≡ records_left st.StartRecord (front ++ r)) where
  -- a front was counted, and the others are to come
  pub front_counted : (text rest : List ℕ) → known reader ≡ Some rest → text ≡ front ++ rest → GoesOn known reader (records_left st.StartRecord text) counted
  front_counted text rest left whole = (rest, left, is_front rest ∙ ap (records_left st.StartRecord) (sym whole))

-- a block more was counted
pub block_counted : {R : Type 0} (known : R → Option (List ℕ)) (before after : R) (all : ℕ) (counted more : Counted) (block : List ℕ)
    → ((bytes : List ℕ) → known before ≡ Some bytes → Reads (known after) bytes block) → ((rest : List ℕ) → counted_with more rest ≡ counted_with counted (block ++ rest))
    → GoesOn known before all counted → GoesOn known after all more
block_counted known before after all counted more block read counts (bytes, left, so_far) =
    let (rest, later, whole, end) = read bytes left in
    (rest, later, counts rest ∙ ap (counted_with counted) (sym whole) ∙ so_far)

-- none was left
pub all_read : {R : Type 0} (known : R → Option (List ℕ)) (before after : R) (all : ℕ) (counted : Counted) (block : List ℕ)
    → ((bytes : List ℕ) → known before ≡ Some bytes → Reads (known after) bytes block) → block ≡ [] → GoesOn known before all counted → counted_with counted [] ≡ all
all_read known before after all counted block read none (bytes, left, so_far) =
    let (rest, later, whole, end) = read bytes left in
    let empty : bytes ≡ [] = whole ∙ ap (λ (xs : List ℕ). xs ++ rest) none ∙ end none in
    ap (counted_with counted) (sym empty) ∙ so_far

-- one byte more of what may be a mark was read, and the others are counted behind it
pub goes_through : {R : Type 0} (known : R → Option (List ℕ)) (before between after : R) (front : List ℕ) (byte mark : ℕ) → byte ≡ mark
    → ((bytes : List ℕ) → known before ≡ Some bytes → (rest : List ℕ) × (known between ≡ Some rest) × (bytes ≡ byte ∷ rest))
    → (result : Result Counted LoadFault)
    → IfOk result (λ counted. (bytes : List ℕ) → known between ≡ Some bytes → GoesOn known after (records_left st.StartRecord (strip_bom (front ++ mark ∷ bytes))) counted)
    → IfOk result (λ counted. (bytes : List ℕ) → known before ≡ Some bytes → GoesOn known after (records_left st.StartRecord (strip_bom (front ++ bytes))) counted)
goes_through known before between after front byte mark same read (Err fault) counts = tt
goes_through known before between after front byte mark same read (Ok counted) counts = λ bytes left.
    let (rest, later, whole) = read bytes left in
    let (last, is, all) = counts rest later in
    (last, is, all ∙ ap (λ (xs : List ℕ). records_left st.StartRecord (strip_bom (front ++ xs))) (sym (whole ∙ ap (λ (x : ℕ). x ∷ rest) same)))

pub none_in_front : (n : ℕ) (xs : List ℕ) → n ≡ 0 → take n xs ≡ []
none_in_front zero xs e = refl
none_in_front (suc n) xs e = absurd (omega (arith, e))
