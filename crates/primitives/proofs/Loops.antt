-- What the loops keep: over the items of IN and of COALESCE, and over the arms of CASE.
use Rattle.std.specs.Prelude.{◌≡◌, ℕ, zero, suc, ◌+◌, ◌<◌, ◌≤◌, true, List, [], ◌∷◌, ◌++◌, map, length, get_or, take, drop, All}
use Rattle.std.specs.List.{AllByRecursion}
use Rattle.std.proofs.Common.{rules, refl, sym, ◌∙◌, ap, subst, arith}
use Rattle.std.proofs.lemmas.List.{drop_more, take_more, take_all}
use Rattle.std.proofs.lemmas.List.Elements.{recursion_from_All}
use Rattle.meaning.specs.declared.value.ColType.{ColType}
use Rattle.meaning.specs.declared.outcome.Fault.{Fault}
use Rattle.meaning.specs.declared.outcome.Truth.TheVariants.{False}
use Rattle.meaning.specs.declared.outcome.Outcome.{Outcome}
use Rattle.meaning.specs.declared.outcome.Outcome.TheVariants as gives
use Rattle.meaning.specs.declared.expr.ComparisonOperator.TheVariants.{Equal}
use Rattle.meaning.specs.declared.expr.Arm.{Arm}
use Rattle.meaning.specs.declared.expr.Expr.{Expr}
use Rattle.meaning.specs.declared.expr.Expr.TheFolds.{the_lemmas}
use Rattle.meaning.specs.declared.joined_row.JoinedRow.{JoinedRow}
use Rattle.meaning.specs.Expr.{Meaning, arms_at, eval, eval_arm, outcomes}
use Rattle.meaning.specs.Operators.{case_of, cases_of, coalesce_of, compare_of, first_of, or_of}
use Rattle.meaning.specs.Typing.{Valued, Boolean, RowTypes}
use Rattle.vectors.specs.Selection.{Positions}
use Rattle.vectors.specs.Vector.{BatchSpec}
use Rattle.vector_operators.specs.declared.given.Given.{Given}
use Rattle.vector_operators.specs.declared.given.Given.TheVariants as given
use Rattle.vector_operators.specs.Evaluated.{Evaluates, Held, IsWithin}
use Rattle.primitives.specs.Meant.{meant_at, row_at}
use Rattle.primitives.specs.Fitting.{AreTypedRows, Fits}
use Rattle.vector_operators.specs.Given.{given_at, is_of_kind}
use Rattle.primitives.specs.Nodes.{Decides, FitsArm, Gives, IsExact, IsNoLater, one_of_subject}
use Rattle.vector_operators.proofs.Composes.{after, lane_is, pointwise, restated}
use Rattle.primitives.proofs.Lists.{first_of_more, one_of_subject_more}

each_is : {X : Type 0} (P : X → Type 0) (xs : List X) (i : ℕ) (d : X) → AllByRecursion P xs → i < length xs → P (get_or xs i d)
each_is P [] i d all within = absurd (omega (arith, within))
each_is P (x ∷ xs) zero d all within = all.0
each_is P (x ∷ xs) (suc i) d all within = each_is P xs i d all.1 (omega (arith, within))

-- what holds of all holds of each one by its index
at_index : {X : Type 0} (P : X → Type 0) (xs : List X) (k : ℕ) (x : X) → All P xs → k < length xs → x ≡ get_or xs k x → P x
at_index P xs k x all below is = subst P (sym is) (each_is P xs k x (recursion_from_All P xs all) below)

front : {X : Type 0} (xs : List X) (k : ℕ) (x : X) → k < length xs → x ≡ get_or xs k x → take (k + 1) xs ≡ take k xs ++ x ∷ []
front xs k x below is = take_more xs k x below ∙ ap (λ z. take k xs ++ z ∷ []) (sym is)

whole : {X : Type 0} (xs : List X) (k : ℕ) → length xs ≤ k → take k xs ≡ xs
whole xs k done = take_all k xs done

outcomes_more : (es : List Expr) (e : Expr) (r : JoinedRow) → outcomes (es ++ e ∷ []) r ≡ outcomes es r ++ eval e r ∷ []
outcomes_more [] e r = refl
outcomes_more (x ∷ xs) e r = ap (λ os. eval x r ∷ os) (outcomes_more xs e r)

regiven : (kind : _) (m m' : ℕ → Outcome) (s : Positions) (h n : Held) (g : Given) → ((i : ℕ) → m i ≡ m' i) → Gives kind m (IsWithin s) h n g → Gives kind m' (IsWithin s) h n g
regiven kind m m' s h n g same there = record { evaluates = restated m m' (IsWithin s) h n (given_at g) (λ i w. same i) there.evaluates; kind = there.kind }

-- ---- IN

-- whether one of the first so many was found
abbrev pub Found : BatchSpec → Positions → List Expr → ℕ → Given → Held → Held → Given → Type 0
Found batch s list k subject h1 now found = (types : RowTypes) (rows : List JoinedRow) (kind : ColType) (x : ℕ → Outcome) (held : Held)
    → AreTypedRows types batch rows → All (λ e. Fits types batch.columns e (Valued kind)) list
    → is_of_kind (Valued kind) subject ≡ true
    → Evaluates x (IsWithin s) held h1 (given_at subject)
    → Gives Boolean (λ i. one_of_subject (x i) (outcomes (take k list) (row_at rows i))) (IsWithin s) held now found × IsNoLater h1 now

none_found : (o : Outcome) → ((e : Fault) → (o ≡ gives.Fault e) → ⊥) → gives.Truth False ≡ one_of_subject o []
none_found (gives.Fault e) never = absurd (never e refl)
none_found (gives.Value v) never = refl
none_found (gives.Truth t) never = refl

pub found_start : (batch : BatchSpec) (s : Positions) (list : List Expr) (subject : Given) (h : Held) (found : Given) (n : ℕ) → s.below ≡ n
    → ((i : ℕ) → i < n → given_at found i ≡ gives.Truth False) → is_of_kind Boolean found ≡ true → Found batch s list 0 subject h h found
found_start batch s list subject h found n long value kind types rows k x held are fits of_subject on = (
  record {
    evaluates = after (λ o. one_of_subject o []) (λ e. refl) x (IsWithin s) held h h (given_at subject) (given_at found) on
        (pointwise (λ i. one_of_subject (given_at subject i) []) (IsWithin s) h (given_at found)
        (λ i w. value i (subst (λ (m : ℕ). i < m) long w.0) ∙ none_found (given_at subject i) (lane_is subject i)));
    kind = kind;
  },
  λ i b. b,
)

pub found_more : (batch : BatchSpec) (s : Positions) (list : List Expr) (k : ℕ) (item : Expr) (subject : Given) (h1 h2 h3 : Held) (found next : Given)
    → k < length list → item ≡ get_or list k item
    → ((types : RowTypes) (rows : List JoinedRow) (kind : ColType) (x a : ℕ → Outcome) (held : Held)
    → AreTypedRows types batch rows → Fits types batch.columns item (Valued kind)
    → is_of_kind (Valued kind) subject ≡ true
    → IsExact x (IsWithin s) h2 (given_at subject)
    → Evaluates a (IsWithin s) held h2 (given_at found)
    → Gives Boolean (λ i. or_of (a i) (compare_of Equal (x i) (meant_at item rows i))) (IsWithin s) held h3 next × IsNoLater h2 h3)
    → Found batch s list k subject h1 h2 found → Found batch s list (k + 1) subject h1 h3 next
found_more batch s list k item subject h1 h2 h3 found next below is on so_far types rows kind x held are fits of_subject on_subject =
    let before = so_far types rows kind x held are fits of_subject on_subject in
    let a : ℕ → Outcome = λ i. one_of_subject (x i) (outcomes (take k list) (row_at rows i)) in
    let then = on types rows kind x a held are (at_index (λ e. Fits types batch.columns e (Valued kind)) list k item fits below is) of_subject
    (λ i w b. on_subject.exact i w (before.1 i b)) before.0.evaluates in (
      regiven Boolean (λ i. or_of (a i) (compare_of Equal (x i) (meant_at item rows i))) (λ i. one_of_subject (x i) (outcomes (take (k + 1) list) (row_at rows i))) s held h3 next
          (λ i. sym (one_of_subject_more (x i) (outcomes (take k list) (row_at rows i)) (meant_at item rows i))
          ∙ ap (one_of_subject (x i)) (sym (outcomes_more (take k list) item (row_at rows i)))
          ∙ ap (λ (es : List Expr). one_of_subject (x i) (outcomes es (row_at rows i))) (sym (front list k item below is)))
          then.0,
      λ i b. before.1 i (then.1 i b),
    )

pub found_all : (batch : BatchSpec) (s : Positions) (list : List Expr) (k : ℕ) (subject : Given) (h1 h2 : Held) (found : Given) → length list ≤ k
    → Found batch s list k subject h1 h2 found
    → (types : RowTypes) (rows : List JoinedRow) (kind : ColType) (x : ℕ → Outcome) (held : Held)
    → AreTypedRows types batch rows → All (λ e. Fits types batch.columns e (Valued kind)) list
    → is_of_kind (Valued kind) subject ≡ true
    → Evaluates x (IsWithin s) held h1 (given_at subject)
    → Gives Boolean (λ i. one_of_subject (x i) (outcomes list (row_at rows i))) (IsWithin s) held h2 found
found_all batch s list k subject h1 h2 found done so_far types rows kind x held are fits of_subject on =
    subst (λ (es : List Expr). Gives Boolean (λ i. one_of_subject (x i) (outcomes es (row_at rows i))) (IsWithin s) held h2 found) (whole list k done)
    (so_far types rows kind x held are fits of_subject on).0

-- ---- COALESCE

-- the first of the first so many that isn't NULL
abbrev pub FirstGiven : BatchSpec → Positions → List Expr → ℕ → Held → Held → Given → Type 0
FirstGiven batch s list k h1 now so_far = (types : RowTypes) (rows : List JoinedRow) (kind : ColType)
    → AreTypedRows types batch rows → All (λ e. Fits types batch.columns e (Valued kind)) list
    → Gives (Valued kind) (λ i. first_of (outcomes (take k list) (row_at rows i))) (IsWithin s) h1 now so_far

pub first_start : (batch : BatchSpec) (s : Positions) (list : List Expr) (h : Held) → FirstGiven batch s list 0 h h given.Null
first_start batch s list h types rows kind are fits = record {
  evaluates = pointwise (λ i. first_of (outcomes (take 0 list) (row_at rows i))) (IsWithin s) h (given_at given.Null) (λ i w. refl);
  kind = refl;
}

pub first_more : (batch : BatchSpec) (s : Positions) (list : List Expr) (k : ℕ) (item : Expr) (h1 h2 h3 : Held) (so_far next : Given)
    → k < length list → item ≡ get_or list k item
    → ((types : RowTypes) (rows : List JoinedRow) (kind : ColType) (a : ℕ → Outcome) (held : Held)
    → AreTypedRows types batch rows → Fits types batch.columns item (Valued kind)
    → is_of_kind (Valued kind) so_far ≡ true
    → Evaluates a (IsWithin s) held h2 (given_at so_far)
    → Gives (Valued kind) (λ i. coalesce_of (a i) (meant_at item rows i)) (IsWithin s) held h3 next)
    → FirstGiven batch s list k h1 h2 so_far → FirstGiven batch s list (k + 1) h1 h3 next
first_more batch s list k item h1 h2 h3 so_far next below is on first types rows kind are fits =
    let before = first types rows kind are fits in
    let a : ℕ → Outcome = λ i. first_of (outcomes (take k list) (row_at rows i)) in
    regiven (Valued kind) (λ i. coalesce_of (a i) (meant_at item rows i)) (λ i. first_of (outcomes (take (k + 1) list) (row_at rows i))) s h1 h3 next
    (λ i. sym (first_of_more (outcomes (take k list) (row_at rows i)) (meant_at item rows i))
    ∙ ap first_of (sym (outcomes_more (take k list) item (row_at rows i)))
    ∙ ap (λ (es : List Expr). first_of (outcomes es (row_at rows i))) (sym (front list k item below is)))
    (on types rows kind a h1 are (at_index (λ e. Fits types batch.columns e (Valued kind)) list k item fits below is) before.kind before.evaluates)

pub first_all : (batch : BatchSpec) (s : Positions) (list : List Expr) (k : ℕ) (h1 h2 : Held) (so_far : Given) → length list ≤ k
    → FirstGiven batch s list k h1 h2 so_far
    → (types : RowTypes) (rows : List JoinedRow) (kind : ColType)
    → AreTypedRows types batch rows → All (λ e. Fits types batch.columns e (Valued kind)) list
    → Gives (Valued kind) (λ i. first_of (outcomes list (row_at rows i))) (IsWithin s) h1 h2 so_far
first_all batch s list k h1 h2 so_far done first types rows kind are fits =
    subst (λ (es : List Expr). Gives (Valued kind) (λ i. first_of (outcomes es (row_at rows i))) (IsWithin s) h1 h2 so_far) (whole list k done) (first types rows kind are fits)

-- ---- CASE

-- the arms from one on decide the lanes that are left
abbrev pub ArmsDecide : BatchSpec → Positions → List Arm → ℕ → Held → Held → Positions → Given → Type 0
ArmsDecide batch s arms k h1 now left g = (types : RowTypes) (rows : List JoinedRow) (kind : ColType) (rest : ℕ → Outcome)
    → AreTypedRows types batch rows → All (FitsArm types batch.columns kind) arms
    → Decides kind (λ i. cases_of (arms_at (row_at rows i) (map eval_arm arms)) (rest i)) (λ i. cases_of (arms_at (row_at rows i) (map eval_arm (drop k arms))) (rest i)) (IsWithin s) left h1 now g

eval_arm-parts : (a b : Expr) → eval_arm (record { when = a; then = b }) ≡ (eval a, eval b)
eval_arm-parts a b = search (rules, the_lemmas)

-- behind the first arm
pub arms_first : (batch : BatchSpec) (s left : Positions) (arms : List Arm) (first : Arm) (others : List Arm) (h1 h2 : Held) (g : Given) → arms ≡ first ∷ others
    → ((types : RowTypes) (rows : List JoinedRow) (kind : ColType) (rest : ℕ → Outcome)
    → AreTypedRows types batch rows → FitsArm types batch.columns kind first
    → Decides kind (λ i. case_of (meant_at first.when rows i) (meant_at first.then rows i) (rest i)) rest (IsWithin s) left h1 h2 g)
    → ArmsDecide batch s arms 1 h1 h2 left g
arms_first batch s left arms first others h1 h2 g is on = subst (λ (all : List Arm). ArmsDecide batch s all 1 h1 h2 left g) (sym is) (λ types rows kind rest are fit.
    (let later : List (Meaning × Meaning) = map eval_arm others in
    subst (λ (p : Meaning × Meaning). Decides kind (λ i. cases_of (arms_at (row_at rows i) (p ∷ later)) (rest i)) (λ i. cases_of (arms_at (row_at rows i) later) (rest i)) (IsWithin s) left h1 h2 g)
    (sym (eval_arm-parts first.when first.then))
    (on types rows kind (λ i. cases_of (arms_at (row_at rows i) later) (rest i)) are (at_index (FitsArm types batch.columns kind) (first ∷ others) 0 first fit (omega arith) refl))))

-- an arm behind the first
pub behind_first : (arms : List Arm) (first : Arm) (others : List Arm) (k : ℕ) (x : Arm) → arms ≡ first ∷ others → k < length others → x ≡ get_or others k x
    → (k + 1 < length arms) × (x ≡ get_or arms (k + 1) x)
behind_first arms first others k x is below at = subst (λ (all : List Arm). (k + 1 < length all) × (x ≡ get_or all (k + 1) x)) (sym is)
    (let next : k + 1 ≡ suc k = omega arith in (omega (arith, below), subst (λ (m : ℕ). x ≡ get_or (first ∷ others) m x) (sym next) at))

-- none is left behind the first
pub gone_through : (arms : List Arm) (first : Arm) (others : List Arm) (k : ℕ) → arms ≡ first ∷ others → length others ≤ k → length arms ≤ k + 1
gone_through arms first others k is done = subst (λ (all : List Arm). length all ≤ k + 1) (sym is) (omega (arith, done))

pub arms_more : (batch : BatchSpec) (s : Positions) (arms : List Arm) (k : ℕ) (arm : Arm) (h1 h2 h3 : Held) (left left2 : Positions) (g next : Given)
    → k < length arms → arm ≡ get_or arms k arm
    → ((types : RowTypes) (rows : List JoinedRow) (kind : ColType) (meant rest : ℕ → Outcome) (selected : Positions) (held : Held)
    → AreTypedRows types batch rows → FitsArm types batch.columns kind arm
    → Decides kind meant (λ i. case_of (meant_at arm.when rows i) (meant_at arm.then rows i) (rest i)) (IsWithin selected) left held h2 g
    → Decides kind meant rest (IsWithin selected) left2 held h3 next)
    → ArmsDecide batch s arms k h1 h2 left g → ArmsDecide batch s arms (k + 1) h1 h3 left2 next
arms_more batch s arms k arm h1 h2 h3 left left2 g next below is on so_far types rows kind rest are fit =
    let meant : ℕ → Outcome = λ i. cases_of (arms_at (row_at rows i) (map eval_arm arms)) (rest i) in
    let later : List (Meaning × Meaning) = map eval_arm (drop (k + 1) arms) in
    let split : drop k arms ≡ arm ∷ drop (k + 1) arms = drop_more arms k arm below ∙ ap (λ (a : Arm). a ∷ drop (k + 1) arms) (sym is) in
    let before = subst (λ (l : List Arm). Decides kind meant (λ i. cases_of (arms_at (row_at rows i) (map eval_arm l)) (rest i)) (IsWithin s) left h1 h2 g) split (so_far types rows kind rest are fit) in
    let there = subst (λ (p : Meaning × Meaning). Decides kind meant (λ i. cases_of (arms_at (row_at rows i) (p ∷ later)) (rest i)) (IsWithin s) left h1 h2 g) (eval_arm-parts arm.when arm.then) before in
    on types rows kind meant (λ i. cases_of (arms_at (row_at rows i) later) (rest i)) s h1 are (at_index (FitsArm types batch.columns kind) arms k arm fit below is) there

none_left : (arms : List Arm) (k : ℕ) → length arms ≤ k → drop k arms ≡ []
none_left [] zero done = refl
none_left [] (suc k) done = refl
none_left (a ∷ more) zero done = absurd (omega (arith, done))
none_left (a ∷ more) (suc k) done = none_left more k (omega (arith, done))

pub arms_all : (batch : BatchSpec) (s : Positions) (arms : List Arm) (k : ℕ) (h1 h2 : Held) (left : Positions) (g : Given) → length arms ≤ k
    → ArmsDecide batch s arms k h1 h2 left g
    → (types : RowTypes) (rows : List JoinedRow) (kind : ColType) (rest : ℕ → Outcome)
    → AreTypedRows types batch rows → All (FitsArm types batch.columns kind) arms
    → Decides kind (λ i. cases_of (arms_at (row_at rows i) (map eval_arm arms)) (rest i)) rest (IsWithin s) left h1 h2 g
arms_all batch s arms k h1 h2 left g done so_far types rows kind rest are fit =
    subst (λ (l : List Arm). Decides kind (λ i. cases_of (arms_at (row_at rows i) (map eval_arm arms)) (rest i)) (λ i. cases_of (arms_at (row_at rows i) (map eval_arm l)) (rest i)) (IsWithin s) left h1 h2 g)
    (none_left arms k done) (so_far types rows kind rest are fit)
