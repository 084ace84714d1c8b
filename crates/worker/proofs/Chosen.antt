-- Texts at the selected positions, and NULL elsewhere.
use Rattle.std.proofs.Common.{◌≡◌, ℕ, ℤ, zero, suc, ◌+◌, ◌<◌, Bool, true, false, eqb, ◌||◌, List, [], ◌∷◌, ◌++◌, get_or, map, zip, length, take, Option, Some, None, refl, ap, sym, ◌∙◌, arith}
use Rattle.std.specs.Prelude.{◌==◌, if◌then◌else◌, set, is_none, unwrap_or}
use Rattle.std.specs.Borrow.{Bor}
use Rattle.std.specs.List.{AllByRecursion}
use Rattle.std.proofs.lemmas.Bool.{eqb-true, eqb-false}
use Rattle.std.proofs.lemmas.Grind.{get_or-set_at}
use Rattle.std.proofs.lemmas.List.{get_or-map, length-map, length-set, get_or-set_other}
use Rattle.std.proofs.lemmas.List.Elements.{All-from_recursion}
use Rattle.std.proofs.lemmas.Slice.Zip.{get_or-zip, length-zip}
use Rattle.meaning.specs.declared.value.Value.{Value}
use Rattle.meaning.specs.declared.value.Value.TheVariants.{Null, Int, Text}
use Rattle.meaning.proofs.Tests.{or_false}
use Rattle.aggregate_states.specs.Values.{is_spelled}
use Rattle.vectors.specs.Lanes.{int_lanes, ints_of, lane_value, lane_values, nulls_of, or_null}
use Rattle.vectors.specs.declared.ints.IntCells.{IntCells}
use Rattle.vectors.specs.declared.nulls.Nulls.{Nulls}
use Rattle.vectors.specs.Selection.{is_among}
use Rattle.worker.specs.Evaluated.{AreOnly, IsOnly}

-- ---- positions

pub among_more : (xs : List ℕ) (p i : ℕ) → is_among (xs ++ p ∷ []) i ≡ (is_among xs i || (p == i))
among_more [] p i = or_false (p == i)
among_more (x ∷ xs) p i = elim (x == i) as (λ b. (b || is_among (xs ++ p ∷ []) i) ≡ ((b || is_among xs i) || (p == i))) [
  | true ↦ refl
  | false ↦ among_more xs p i
]

-- ---- lanes that are filled

abbrev text_of : Bor (List ℕ) → Value
text_of t = Text t.now

abbrev lane : Bor (List ℕ) → List Bool → List (Bor (List ℕ)) → ℕ → Value
lane blank nulls cells i = lane_value text_of (get_or nulls i true, get_or cells i blank)

pub record AreSoFar (positions : List ℕ) (texts : List Value) (nulls : List Bool) (cells : List (Bor (List ℕ))) : Type 0 where
  pub nulls_long : length nulls ≡ length texts
  pub cells_long : length cells ≡ length texts
  pub each : (i : ℕ) (d : Bor (List ℕ)) → i < length texts → lane d nulls cells i ≡ (if is_among positions i then get_or texts i Null else Null)

true_there : (nulls : List Bool) → ((k : ℕ) (d : Bool) → k < length nulls → get_or nulls k d ≡ true) → (i : ℕ) → get_or nulls i true ≡ true
true_there [] all i = refl
true_there (n ∷ ns) all zero = all 0 true (omega arith)
true_there (n ∷ ns) all (suc i) = true_there ns (λ k d lt. all (suc k) d (omega (arith, lt))) i

-- no lane yet
pub none_so_far : (positions : List ℕ) (texts : List Value) (nulls : List Bool) (cells : List (Bor (List ℕ))) → positions ≡ [] → length nulls ≡ length texts → length cells ≡ length texts
    → ((i : ℕ) → get_or nulls i true ≡ true) → AreSoFar positions texts nulls cells
none_so_far positions texts nulls cells none a b all = record {
  nulls_long = a;
  cells_long = b;
  each = λ i d below. ap (λ n. lane_value text_of (n, get_or cells i d)) (all i) ∙ sym (ap (λ (ps : List ℕ). if is_among ps i then get_or texts i Null else Null) none);
}

taken : (blank : Bor (List ℕ)) (text : Option (Bor (List ℕ))) → lane_value text_of (is_none text, unwrap_or text blank) ≡ or_null text_of text
taken blank None = refl
taken blank (Some t) = refl

-- one position more
pub one_so_far : (blank : Bor (List ℕ)) (positions : List ℕ) (k p : ℕ) (texts : List Value) (nulls : List Bool) (cells : List (Bor (List ℕ))) (text : Option (Bor (List ℕ)))
    → take (k + 1) positions ≡ take k positions ++ p ∷ [] → p < length texts → or_null text_of text ≡ get_or texts p Null
    → AreSoFar (take k positions) texts nulls cells → AreSoFar (take (k + 1) positions) texts (set nulls p (is_none text)) (set cells p (unwrap_or text blank))
one_so_far blank positions k p texts nulls cells text more below found so_far = record {
  nulls_long = length-set nulls p (is_none text) ∙ so_far.nulls_long;
  cells_long = length-set cells p (unwrap_or text blank) ∙ so_far.cells_long;
  each = λ i d lt. one i d lt (eqb p i) refl ∙ sym (ap (λ (b : Bool). if b then get_or texts i Null else Null) (ap (λ (ps : List ℕ). is_among ps i) more ∙ among_more (take k positions) p i));
}
  where
    one : (i : ℕ) (d : Bor (List ℕ)) → i < length texts → (b : Bool) → eqb p i ≡ b
        → lane d (set nulls p (is_none text)) (set cells p (unwrap_or text blank)) i ≡ (if is_among (take k positions) i || (p == i) then get_or texts i Null else Null)
    one i d lt true e =
        let same : i ≡ p = sym (eqb-true p i e) in
        let n_here : p < length nulls = let h = so_far.nulls_long in omega (arith, h, below) in
        let c_here : p < length cells = let h = so_far.cells_long in omega (arith, h, below) in
        let n = get_or-set_at nulls p i (is_none text) true same n_here in
        let c = get_or-set_at cells p i (unwrap_or text blank) d same c_here in
        rw (n, c, e) (taken blank text ∙ found ∙ ap (λ (q : ℕ). get_or texts q Null) (sym same) ∙ chosen (is_among (take k positions) i))
      where
        chosen : (b : Bool) → get_or texts i Null ≡ (if b || true then get_or texts i Null else Null)
        chosen true = refl
        chosen false = refl
    one i d lt false e =
        let apart : i ≡ p → ⊥ = λ h. eqb-false p i e (sym h) in
        let n = get_or-set_other nulls p i (is_none text) true apart in
        let c = get_or-set_other cells p i (unwrap_or text blank) d apart in
        rw (n, c, e) (so_far.each i d lt ∙ chosen (is_among (take k positions) i))
      where
        chosen : (b : Bool) → (if b then get_or texts i Null else Null) ≡ (if b || false then get_or texts i Null else Null)
        chosen true = refl
        chosen false = refl

mapped : (ns : List Bool) (cs : List (Bor (List ℕ))) → lane_values Text ns (map (λ t. t.now) cs) ≡ map (lane_value text_of) (zip ns cs)
mapped [] cs = refl
mapped (n ∷ ns) [] = refl
mapped (true ∷ ns) (c ∷ cs) = ap (λ (vs : List Value). Null ∷ vs) (mapped ns cs)
mapped (false ∷ ns) (c ∷ cs) = ap (λ (vs : List Value). Text c.now ∷ vs) (mapped ns cs)

one_of : (cells : List (Bor (List ℕ))) (i : ℕ) → i < length cells → Bor (List ℕ)
one_of [] i lt = absurd (omega (arith, lt))
one_of (c ∷ cells) i lt = c

-- all positions
pub all_so_far : (positions : List ℕ) (texts : List Value) (nulls : List Bool) (cells : List (Bor (List ℕ))) → AreSoFar positions texts nulls cells
    → AreOnly positions texts (lane_values Text nulls (map (λ t. t.now) cells))
all_so_far positions texts nulls cells so_far =
    let a = so_far.nulls_long in
    let b = so_far.cells_long in
    let zipped = length-zip nulls cells in
    let all = length-map (zip nulls cells) (lane_value text_of) in
    record {
      long = ap (λ (vs : List Value). length vs) (mapped nulls cells) ∙ omega (arith, a, b, zipped, all);
      each = λ i below.
          let blank = one_of cells i (omega (arith, b, below)) in
          ap (λ (vs : List Value). get_or vs i Null) (mapped nulls cells)
          ∙ get_or-map (lane_value text_of) (zip nulls cells) i (true, blank) Null (omega (arith, a, b, zipped, below))
          ∙ ap (lane_value text_of) (get_or-zip nulls cells i (true, blank) (omega (arith, a, below)) (omega (arith, b, below)))
          ∙ so_far.each i blank below;
    }

-- ---- vectors that have the selected alone

pub only_these : (selected : List ℕ) (old new : List Value) → AreOnly selected old new → ((i : ℕ) → is_among selected i ≡ true → i < length old) → IsOnly selected old new
only_these selected old new are below = record {
  long = are.long;
  same = λ i among. are.each i (below i among) ∙ rw among refl;
  spelled = λ sound. λ k d lt. spelled_at sound k d lt (is_among selected k) refl;
}
  where
    spelled_at : ((i : ℕ) → is_among selected i ≡ true → is_spelled (get_or old i Null) ≡ true) → (k : ℕ) (d : Value) → k < length new → (b : Bool) → is_among selected k ≡ b → is_spelled (get_or new k d) ≡ true
    spelled_at sound k d lt b among =
        let h = are.long in
        let same : get_or new k d ≡ get_or new k Null = default new k d lt in
        ap is_spelled (same ∙ are.each k (omega (arith, h, lt))) ∙ by_test b among
      where
        default : (vs : List Value) (k : ℕ) (d : Value) → k < length vs → get_or vs k d ≡ get_or vs k Null
        default [] k d lt = absurd (omega (arith, lt))
        default (v ∷ vs) zero d lt = refl
        default (v ∷ vs) (suc k) d lt = default vs k d (omega (arith, lt))

        by_test : (b : Bool) → is_among selected k ≡ b → is_spelled (if is_among selected k then get_or old k Null else Null) ≡ true
        by_test true e = rw e (sound k e)
        by_test false e = rw e refl

-- the same vector, where all positions are selected
pub all_selected : (selected : List ℕ) (values : List Value) → ((i : ℕ) → i < length values → is_among selected i ≡ true) → IsOnly selected values values
all_selected selected values all = record {
  long = refl;
  same = λ i among. refl;
  spelled = λ sound. λ k d lt. ap is_spelled (default values k d lt) ∙ sound k (all k lt);
}
  where
    default : (vs : List Value) (k : ℕ) (d : Value) → k < length vs → get_or vs k d ≡ get_or vs k Null
    default [] k d lt = absurd (omega (arith, lt))
    default (v ∷ vs) zero d lt = refl
    default (v ∷ vs) (suc k) d lt = default vs k d (omega (arith, lt))

-- the same vector, where all is spelled
pub all_spelled : (selected : List ℕ) (values : List Value) → AllByRecursion (λ v. is_spelled v ≡ true) values → IsOnly selected values values
all_spelled selected values all = record {
  long = refl;
  same = λ i among. refl;
  spelled = λ sound. All-from_recursion (λ v. is_spelled v ≡ true) values all;
}

pub ints_spelled : (cells : IntCells) (nulls : Nulls) → AllByRecursion (λ v. is_spelled v ≡ true) (int_lanes cells nulls)
ints_spelled cells nulls = each (nulls_of (length (ints_of cells)) nulls) (ints_of cells)
  where
    each : (ns : List Bool) (cs : List ℤ) → AllByRecursion (λ v. is_spelled v ≡ true) (lane_values Int ns cs)
    each [] cs = tt
    each (n ∷ ns) [] = tt
    each (true ∷ ns) (c ∷ cs) = (refl, each ns cs)
    each (false ∷ ns) (c ∷ cs) = (refl, each ns cs)
