-- Comparisons lane by lane.
use Rattle.std.specs.Prelude.{◌≡◌, ℕ, ◌<◌, ℤ, Bool, true, false, ◌||◌, [], List, length, map, get_or, Result, Ok, Err, IfOk}
use Rattle.std.specs.Borrow.{Bor}
use Rattle.std.specs.Int.{from_bool}
use Rattle.std.specs.Ordering.{int_cmp, nat_cmp}
use Rattle.std.specs.Cmp.Lexicographic.{slice_cmp}
use Rattle.std.specs.Str.{is_utf8}
use Rattle.std.proofs.Common.{refl, sym, ◌∙◌, ap, subst}
use Rattle.std.proofs.lemmas.List.{length-map}
use Rattle.meaning.specs.declared.value.Value.{Value}
use Rattle.meaning.specs.declared.value.Value.TheVariants.{Null, Int, Text}
use Rattle.meaning.specs.declared.outcome.Truth.{Truth}
use Rattle.meaning.specs.declared.outcome.Truth.TheVariants.{Unknown}
use Rattle.meaning.specs.declared.expr.ComparisonOperator.{ComparisonOperator}
use Rattle.meaning.specs.declared.expr.ComparisonOperator.TheVariants.{Equal}
use Rattle.meaning.specs.Operators.{compared, like_value, test, truth_of}
use Rattle.meaning.specs.Like.{is_like}
use Rattle.vectors.specs.declared.nulls.Nulls.{Nulls}
use Rattle.vectors.specs.Lanes.{lane_value, nulls_of}
use Rattle.lane_loops.specs.Lanes.{AreLanes, AreLanesWhere, like_bit, null_at, text_at}
use Rattle.lane_loops.specs.Outcomes.{returned_truth}
use Rattle.lane_loops.proofs.Returned.{lanes_returned}
use Rattle.vector_operators.specs.Given.{IsSpelled}
use Rattle.vector_operators.specs.Broadcast.{AreEither, AreParts}

pub if_ok : {A E : Type 0} (r : Result A E) (P Q : A → Type 0) → ((x : A) → P x → Q x) → IfOk r P → IfOk r Q
if_ok (Ok x) P Q to p = to x p
if_ok (Err e) P Q to p = tt

module _ {X : Type 0} (value : X → Value) (blank : X) (n : ℕ) (lanes : List Value) (cells : List X) (nulls : Nulls) (long : length lanes ≡ n) (are : AreParts value blank lanes cells nulls) where
  pub value_at : (i : ℕ) → i < n → get_or lanes i Null ≡ lane_value value (null_at (nulls_of n nulls) i, get_or cells i blank)
  value_at i within =
      are.each i (subst (λ (k : ℕ). i < k) (sym long) within) ∙ ap (λ (k : ℕ). lane_value value (null_at (nulls_of k nulls) i, get_or cells i blank)) long

module _ {X : Type 0} (value : X → Value) (blank : X) (op : ComparisonOperator) (bit : X → X → ℕ)
    (returned : (l r : Bool) (x y : X) → compared op (lane_value value (l, x)) (lane_value value (r, y)) ≡ returned_truth (l || r) (bit x y)) where
  -- the truths that are put are those of the comparison
  pub compared_reports : (n : ℕ) (left right : List Value) (lc rc : List X) (bits : List ℕ) (ln rn nulls : Nulls) (truths : List Truth)
      → AreParts value blank left lc ln → AreParts value blank right rc rn → length left ≡ n → length right ≡ n
      → AreEither (nulls_of n ln) (nulls_of n rn) n nulls
      → length bits ≡ n → ((i : ℕ) → i < n → get_or bits i 0 ≡ bit (get_or lc i blank) (get_or rc i blank))
      → AreLanes Unknown (length bits) (λ i. returned_truth (null_at (nulls_of (length bits) nulls) i) (get_or bits i 0)) truths
      → AreLanes Unknown n (λ i. compared op (get_or left i Null) (get_or right i Null)) truths
  compared_reports n left right lc rc bits ln rn nulls truths of_left of_right left_long right_long either bits_long bits_are put = record {
    long = put.long ∙ bits_long;
    each = each;
  } where
    each : (i : ℕ) → i < n → get_or truths i Unknown ≡ compared op (get_or left i Null) (get_or right i Null)
    each i within =
        let l = null_at (nulls_of n ln) i in
        let r = null_at (nulls_of n rn) i in
        put.each i (subst (λ (k : ℕ). i < k) (sym bits_long) within)
        ∙ ap (λ (k : ℕ). returned_truth (null_at (nulls_of k nulls) i) (get_or bits i 0)) bits_long
        ∙ ap (λ (b : Bool). returned_truth b (get_or bits i 0)) (either.each i within)
        ∙ ap (λ (k : ℕ). returned_truth (l || r) k) (bits_are i within)
        ∙ sym (returned l r (get_or lc i blank) (get_or rc i blank))
        ∙ ap (λ (v : Value). compared op v (lane_value value (r, get_or rc i blank))) (sym (value_at value blank n left lc ln left_long of_left i within))
        ∙ ap (λ (v : Value). compared op (get_or left i Null) v) (sym (value_at value blank n right rc rn right_long of_right i within))

  pub reports : (n m k : ℕ) (left right : List Value) (lc rc cells : List X) (bits slice : List ℕ) (ln rn nulls : Nulls) (E : Type 0) (r : Result (List Truth) E)
      → AreParts value blank left lc ln → AreParts value blank right rc rn → length left ≡ n → length right ≡ n
      → k ≡ n → AreEither (nulls_of k ln) (nulls_of k rn) k nulls
      → cells ≡ lc → m ≡ n → AreLanes 0 m (λ i. bit (get_or cells i blank) (get_or rc i blank)) bits
      → slice ≡ bits
      → IfOk r (AreLanes Unknown (length slice) (λ i. returned_truth (null_at (nulls_of (length slice) nulls) i) (get_or slice i 0)))
      → IfOk r (AreLanes Unknown n (λ i. compared op (get_or left i Null) (get_or right i Null)))
  reports n m k left right lc rc cells bits slice ln rn nulls E r of_left of_right left_long right_long k_is either same m_is bits_are is_slice put =
      if_ok r _ _ (λ truths there. compared_reports n left right lc rc slice ln rn nulls truths of_left of_right left_long right_long
      (subst (λ (j : ℕ). AreEither (nulls_of j ln) (nulls_of j rn) j nulls) k_is either)
      (ap (λ (xs : List ℕ). length xs) is_slice ∙ bits_are.long ∙ m_is)
      (λ i within. ap (λ (xs : List ℕ). get_or xs i 0) is_slice ∙ bits_are.each i (subst (λ (j : ℕ). i < j) (sym m_is) within)
      ∙ ap (λ (xs : List X). bit (get_or xs i blank) (get_or rc i blank)) same)
      there) put

pub ints_returned : (op : ComparisonOperator) (l r : Bool) (m n : ℤ) → compared op (lane_value Int (l, m)) (lane_value Int (r, n)) ≡ returned_truth (l || r) (from_bool (test op (int_cmp m n)))
ints_returned op l r m n = (lanes_returned.tests op l r).ints m n

pub texts_returned : (op : ComparisonOperator) (l r : Bool) (a b : List ℕ) → compared op (lane_value Text (l, a)) (lane_value Text (r, b)) ≡ returned_truth (l || r) (from_bool (test op (slice_cmp nat_cmp a b)))
texts_returned op l r a b = (lanes_returned.tests op l r).texts a b

-- ---- LIKE

like_returned : (l : Bool) (pattern a : List ℕ) → returned_truth l (from_bool (is_like pattern a)) ≡ truth_of (like_value pattern (lane_value Text (l, a)))
like_returned l pattern a = ap truth_of (sym ((lanes_returned.tests Equal l true).like pattern a))

spelled_unless_null : (l : Bool) (a : List ℕ) (bit : ℕ) (pattern : List ℕ) → IsSpelled (lane_value Text (l, a)) → (is_utf8 a ≡ true → bit ≡ from_bool (is_like pattern a))
    → returned_truth l bit ≡ returned_truth l (from_bool (is_like pattern a))
spelled_unless_null true a bit pattern spelled given = refl
spelled_unless_null false a bit pattern spelled given = ap (λ (k : ℕ). returned_truth false k) (given spelled)

pub like_reports : (pattern : List ℕ) (lanes : List Value) (cells : List (List ℕ)) (texts : List (Bor (List ℕ))) (nulls : Nulls) (bits : List ℕ) (truths : List Truth)
    → AreParts Text [] lanes cells nulls → map (λ t. t.now) texts ≡ cells
    → AreLanesWhere 0 (length texts) (λ i. is_utf8 (text_at texts i) ≡ true) (like_bit pattern texts) bits
    → length texts ≡ length lanes
    → AreLanes Unknown (length bits) (λ i. returned_truth (null_at (nulls_of (length bits) nulls) i) (get_or bits i 0)) truths
    → AreLanesWhere Unknown (length lanes) (λ i. IsSpelled (get_or lanes i Null)) (λ i. truth_of (like_value pattern (get_or lanes i Null))) truths
like_reports pattern lanes cells texts nulls bits truths are same bits_are texts_long put = record { long = put.long ∙ bits_long; each = each } where
  bits_long : length bits ≡ length lanes
  bits_long = bits_are.long ∙ texts_long

  each : (i : ℕ) → i < length lanes → IsSpelled (get_or lanes i Null) → get_or truths i Unknown ≡ truth_of (like_value pattern (get_or lanes i Null))
  each i within spelled =
      let l = null_at (nulls_of (length lanes) nulls) i in
      let a = get_or cells i [] in
      let at = are.each i within in
      let text : text_at texts i ≡ a = ap (λ (ts : List (List ℕ)). get_or ts i []) same in
      put.each i (subst (λ (k : ℕ). i < k) (sym bits_long) within)
      ∙ ap (λ (k : ℕ). returned_truth (null_at (nulls_of k nulls) i) (get_or bits i 0)) bits_long
      ∙ spelled_unless_null l a (get_or bits i 0) pattern (subst IsSpelled at spelled)
      (λ u. bits_are.each i (subst (λ (k : ℕ). i < k) (sym texts_long) within) (subst (λ (t : List ℕ). is_utf8 t ≡ true) (sym text) u) ∙ ap (λ (t : List ℕ). from_bool (is_like pattern t)) text)
      ∙ like_returned l pattern a
      ∙ ap (λ (v : Value). truth_of (like_value pattern v)) (sym at)

pub like_returned_if : (pattern : List ℕ) (lanes : List Value) (cells : List (List ℕ)) (texts : List (Bor (List ℕ))) (nulls : Nulls) (bits slice : List ℕ) (E : Type 0) (r : Result (List Truth) E)
    → AreParts Text [] lanes cells nulls → map (λ t. t.now) texts ≡ cells
    → AreLanesWhere 0 (length texts) (λ i. is_utf8 (text_at texts i) ≡ true) (like_bit pattern texts) bits
    → slice ≡ bits
    → IfOk r (AreLanes Unknown (length slice) (λ i. returned_truth (null_at (nulls_of (length slice) nulls) i) (get_or slice i 0)))
    → IfOk r (λ truths. AreLanesWhere Unknown (length lanes) (λ i. IsSpelled (get_or lanes i Null)) (λ i. truth_of (like_value pattern (get_or lanes i Null))) truths)
like_returned_if pattern lanes cells texts nulls bits slice E r are same bits_are is_slice put =
    if_ok r _ _ (λ truths there. like_reports pattern lanes cells texts nulls bits truths are same bits_are
    (sym (length-map texts (λ (t : Bor (List ℕ)). t.now)) ∙ ap (λ (ts : List (List ℕ)). length ts) same ∙ are.long)
    (subst (λ (xs : List ℕ). AreLanes Unknown (length xs) (λ i. returned_truth (null_at (nulls_of (length xs) nulls) i) (get_or xs i 0)) truths) is_slice there)) put
