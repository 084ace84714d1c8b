-- The rows that a batch shows, read off vectors.
use Rattle.std.proofs.Common.{◌≡◌, ℕ, zero, suc, ◌+◌, ◌<◌, eqb, Bool, true, false, ◌||◌, List, [], ◌∷◌, ◌++◌, get_or, map, length, None, Some, Ok, Err, refl, ap, sym, subst, ◌∙◌, arith}
use Rattle.std.specs.Prelude.{All, IfSome, Result, if◌then◌else◌}
use Rattle.std.specs.List.{AllByRecursion}
use Rattle.std.proofs.lemmas.Bool.{eqb-true, eqb-false, eq-eqb, ne_eqb}
use Rattle.std.proofs.lemmas.List.{get_or-map, length-map, take_all}
use Rattle.std.proofs.lemmas.List.Elements.{All-from_recursion, recursion_from_All}
use Rattle.meaning.specs.declared.joined_row.JoinedRow.{JoinedRow}
use Rattle.meaning.specs.declared.outcome.Outcome.{Outcome}
use Rattle.meaning.specs.declared.outcome.Outcome.TheVariants as gives
use Rattle.meaning.specs.declared.plan.Item.{Item}
use Rattle.meaning.specs.declared.plan.Plan.{Plan}
use Rattle.meaning.specs.declared.value.ColType.{ColType}
use Rattle.meaning.specs.declared.value.Value.TheVariants.{Null}
use Rattle.meaning.specs.Expr.{eval, values, with_value}
use Rattle.meaning.specs.Finish.{all_rows, shown}
use Rattle.meaning.specs.Operators.{code_of}
use Rattle.meaning.specs.Order.{Row}
use Rattle.meaning.specs.Results.{all_ok, and_then, with_result}
use Rattle.meaning.specs.Typing.{RowTypes, Valued, fits_row_types, gives_expr_type, group_types, has_type}
use Rattle.meaning.proofs.Typed.{typed}
use Rattle.meaning.proofs.Tests.{or_second}
use Rattle.aggregate_states.specs.Values.{is_spelled}
use Rattle.aggregate_states.proofs.Spelled.{spelled_of_type}
use Rattle.vectors.specs.Selection.{IsSelection, Positions, is_among}
use Rattle.vectors.specs.Vector.{BatchSpec, values_of}
use Rattle.vectors.specs.declared.vector.Vector.{Vector}
use Rattle.vectors.proofs.Ascending.{Ascends, among_below, ascends, moved}
use Rattle.vector_operators.specs.Evaluated.{Held, IsBefore}
use Rattle.vector_operators.specs.declared.fault.Faulted.{Faulted}
use Rattle.primitives.specs.Fitting.{Fits}
use Rattle.primitives.specs.Meant.{row_at}
use Rattle.last_step.proofs.KeptGroups.{selected_below}
use Rattle.last_step.specs.Batches.{IsBatchOf, IsReadable, Shows, lane_row, shown_after}

-- ---- texts are UTF-8

spelled_values : (types : RowTypes) (s : JoinedRow) → fits_row_types types s ≡ true → (items : List Item) (row : Row) → AllByRecursion (λ i. (kind : ColType) × (has_type types i.expr (Valued kind) ≡ true)) items
    → values (map (λ i. i.expr) items) s ≡ Ok row → AllByRecursion (λ v. is_spelled v ≡ true) row
spelled_values types s fits [] row typing is = let none : [] ≡ row = cc in subst (AllByRecursion (λ v. is_spelled v ≡ true)) none tt
spelled_values types s fits (i ∷ items) row typing is =
    by (eval i.expr s) (values (map (λ i. i.expr) items) s) refl (typed types s fits i.expr (Valued typing.0.0) typing.0.1) is (λ vs later. spelled_values types s fits items vs typing.1 later)
  where
    by : (o : Outcome) (r : Result Row ℕ) → values (map (λ i. i.expr) items) s ≡ r → gives_expr_type (Valued typing.0.0) o ≡ true → with_value o r ≡ Ok row
        → ((vs : Row) → values (map (λ i. i.expr) items) s ≡ Ok vs → AllByRecursion (λ v. is_spelled v ≡ true) vs) → AllByRecursion (λ v. is_spelled v ≡ true) row
    by (gives.Fault f) r e type is go = absurd cc
    by (gives.Truth t) r e type is go = absurd cc
    by (gives.Value v) (Err c) e type is go = absurd cc
    by (gives.Value v) (Ok vs) e type is go =
        let parts : v ∷ vs ≡ row = cc in
        subst (AllByRecursion (λ v. is_spelled v ≡ true)) parts (spelled_of_type typing.0.0 v type, go vs e)

all_at : {X : Type 0} (P : X → Type 0) (xs : List X) (i : ℕ) (d : X) → AllByRecursion P xs → i < length xs → P (get_or xs i d)
all_at P [] i d all below = absurd (omega (arith, below))
all_at P (x ∷ xs) zero d all below = all.0
all_at P (x ∷ xs) (suc i) d all below = all_at P xs i d all.1 (omega (arith, below))

typed_items : (plan : Plan) (rows : List JoinedRow) (b : BatchSpec) → (items : List Item) → AllByRecursion (λ i. (kind : ColType) × Fits (group_types plan) b.columns i.expr (Valued kind)) items
    → AllByRecursion (λ i. (kind : ColType) × (has_type (group_types plan) i.expr (Valued kind) ≡ true)) items
typed_items plan rows b [] all = tt
typed_items plan rows b (i ∷ items) all = ((all.0.0, all.0.1.typed), typed_items plan rows b items all.1)

-- ---- what all rows show

module _ (plan : Plan) (lanes : ℕ → Row) where
  abbrev judged : List JoinedRow → Result (List (List Row)) ℕ
  judged rows = all_ok (map (shown plan) rows)

  -- rows from a position on, of which those at these positions are kept
  abbrev AreShownFrom : ℕ → List ℕ → List JoinedRow → Type 0
  AreShownFrom a ps [] = Unit {0}
  AreShownFrom a ps (r ∷ rows) = (shown plan r ≡ Ok (if is_among ps a then lanes a ∷ [] else [])) × AreShownFrom (a + 1) ps rows

  abbrev rows_in_parts : Result (List (List Row)) ℕ → List Row → Type 0
  rows_in_parts r all = and_then r (λ parts. Ok (all_rows parts)) ≡ Ok all

  one : (r : Result (List Row) ℕ) (rest : Result (List (List Row)) ℕ) (xs ys : List Row) → r ≡ Ok xs → rows_in_parts rest ys → rows_in_parts (with_result r rest) (xs ++ ys)
  one (Ok zs) (Ok parts) xs ys e f =
      let same : zs ≡ xs = cc in
      let others : all_rows parts ≡ ys = cc in
      λ i. Ok (same i ++ others i)
  one (Ok zs) (Err c) xs ys e f = absurd cc
  one (Err c) rest xs ys e f = absurd cc

  same_from : (a : ℕ) (p : ℕ) (ps : List ℕ) (rows : List JoinedRow) → p < a → AreShownFrom a (p ∷ ps) rows → AreShownFrom a ps rows
  same_from a p ps [] low are = tt
  same_from a p ps (r ∷ rows) low are =
      let apart : eqb p a ≡ false = ne_eqb p a (λ e. omega (arith, e, low)) in
      (are.0 ∙ ap (λ (b : Bool). Ok (if (b || is_among ps a) then lanes a ∷ [] else [])) apart, same_from (a + 1) p ps rows (omega (arith, low)) are.1)

  gathered : (a : ℕ) (ps : List ℕ) (rows : List JoinedRow) → Ascends a ps → AllByRecursion (λ p. p < a + length rows) ps → AreShownFrom a ps rows → rows_in_parts (judged rows) (map lanes ps)
  gathered a [] [] up within are = refl
  gathered a (p ∷ ps) [] up within are = absurd (let low = up.0 in let high = within.0 in omega (arith, low, high))
  gathered a [] (r ∷ rows) up within are = one (shown plan r) (judged rows) [] [] are.0 (gathered (a + 1) [] rows tt tt are.1)
  gathered a (p ∷ ps) (r ∷ rows) up within are =
      elim (eqb p a) as (λ b. eqb p a ≡ b → rows_in_parts (judged (r ∷ rows)) (map lanes (p ∷ ps))) [
        | true ↦ λ e.
            let same : p ≡ a = eqb-true p a e in
            let here : shown plan r ≡ Ok (lanes p ∷ []) = are.0 ∙ ap (λ (b : Bool). Ok (if (b || is_among ps a) then lanes a ∷ [] else [])) e ∙ ap (λ (k : ℕ). Ok (lanes k ∷ [])) (sym same) in
            let up' : Ascends (a + 1) ps = subst (λ (k : ℕ). Ascends k ps) (omega (arith, same)) up.1 in
            one (shown plan r) (judged rows) (lanes p ∷ []) (map lanes ps) here (gathered (a + 1) ps rows up' (moved a (length rows) ps within.1) (same_from (a + 1) p ps rows (omega (arith, same)) are.1))
        | false ↦ λ e.
            let apart = eqb-false p a e in
            let low = up.0 in
            let up' : Ascends (a + 1) (p ∷ ps) = (omega (arith, apart, low), up.1) in
            let none : is_among (p ∷ ps) a ≡ false = rw e (among_below (suc p) ps a up.1 (omega (arith, low))) in
            let here : shown plan r ≡ Ok [] = are.0 ∙ ap (λ (b : Bool). Ok (if b then lanes a ∷ [] else [])) none in
            one (shown plan r) (judged rows) [] (map lanes (p ∷ ps)) here (gathered (a + 1) (p ∷ ps) rows up' (moved a (length rows) (p ∷ ps) within) are.1)
      ] refl

  -- pointwise
  from_each : (a : ℕ) (ps : List ℕ) (rows all : List JoinedRow) → ((i : ℕ) → i < length rows → row_at all (a + i) ≡ row_at rows i)
      → ((i : ℕ) → i < a + length rows → shown plan (row_at all i) ≡ Ok (if is_among ps i then lanes i ∷ [] else [])) → AreShownFrom a ps rows
  from_each a ps [] all at each = tt
  from_each a ps (r ∷ rows) all at each =
      let none : a + 0 ≡ a = omega arith in (
        ap (shown plan) (sym (at 0 (omega arith)) ∙ ap (row_at all) none) ∙ each a (omega arith),
        from_each (a + 1) ps rows all (λ i below. let e : (a + 1) + i ≡ a + suc i = omega arith in ap (row_at all) e ∙ at (suc i) (omega (arith, below))) (λ i below. each i (omega (arith, below))),
      )

  -- the first fault
  pub first_fault : (rows : List JoinedRow) (p : ℕ) (code : ℕ) → p < length rows → ((i : ℕ) → i < p → (rs : List Row) × (shown plan (row_at rows i) ≡ Ok rs)) → shown plan (row_at rows p) ≡ Err code
      → judged rows ≡ Err code
  first_fault [] p code below before bad = absurd (omega (arith, below))
  first_fault (r ∷ rows) zero code below before bad = ap (λ x. with_result x (judged rows)) bad
  first_fault (r ∷ rows) (suc p) code below before bad =
      let here = before 0 (omega arith) in
      ap (λ x. with_result x (judged rows)) here.1 ∙ ap (with_result (Ok here.0)) (first_fault rows p code (omega (arith, below)) (λ i low. before (suc i) (omega (arith, low))) bad)

  after_parts : (before : List Row) (r : Result (List (List Row)) ℕ) (all : List Row) → rows_in_parts r all → and_then r (λ parts. Ok (before ++ all_rows parts)) ≡ Ok (before ++ all)
  after_parts before (Ok parts) all e = let same : all_rows parts ≡ all = cc in ap (λ (rs : List Row). Ok (before ++ rs)) same
  after_parts before (Err c) all e = absurd cc

  all_shown : (before : List Row) (rows : List JoinedRow) (s : Positions) → IsSelection s → s.below ≡ length rows
      → ((i : ℕ) → i < length rows → shown plan (row_at rows i) ≡ Ok (if is_among s.list i then lanes i ∷ [] else [])) → shown_after plan before rows ≡ Ok (before ++ map lanes s.list)
  all_shown before rows s sound same each =
      after_parts before (judged rows) (map lanes s.list)
      (gathered 0 s.list rows (ascends s.list sound.ascending) (subst (λ (k : ℕ). AllByRecursion (λ p. p < k) s.list) (same ∙ omega arith) (recursion_from_All (λ p. p < s.below) s.list sound.within))
      (from_each 0 s.list rows rows (λ i below. let e : 0 + i ≡ i = omega arith in ap (row_at rows) e) (λ i below. each i (omega (arith, below)))))

module _ (plan : Plan) (rows : List JoinedRow) (selected : List ℕ) (held : Held) (vectors : List Vector) (shows : Shows plan rows (length plan.items) selected held vectors) where
  at_position : (i : ℕ) → i < length rows → IsBefore i held → (b : Bool) → is_among selected i ≡ b → shown plan (row_at rows i) ≡ Ok (if b then lane_row vectors i ∷ [] else [])
  at_position i below before false among = shows.dropped i among below before
  at_position i below before true among =
      shows.kept i among before _
      ∙ ap (λ es. and_then (values (map (λ i. i.expr) es) (row_at rows i)) (λ row. Ok (row ∷ []))) (sym (take_all (length plan.items) plan.items (omega arith)))
      ∙ ap (λ r. and_then r (λ row. Ok (row ∷ []))) (shows.given i among before)

  pub shown_before : (i : ℕ) → i < length rows → IsBefore i held → shown plan (row_at rows i) ≡ Ok (if is_among selected i then lane_row vectors i ∷ [] else [])
  shown_before i below before = at_position i below before (is_among selected i) refl

  -- the fault that is held is the first
  pub fault_shown : (before : List Row) (f : Faulted) → held ≡ Some f → shown_after plan before rows ≡ Err (code_of f.fault)
  fault_shown before f is =
      let returned = subst (λ (h : Held). IfSome h (λ g. (g.position < length rows) × (shown plan (row_at rows g.position) ≡ Err (code_of g.fault)))) is shows.fault in
      ap (λ r. and_then r (λ parts. Ok (before ++ all_rows parts)))
      (first_fault plan (lane_row vectors) rows f.position (code_of f.fault) returned.0 (λ i low. (_, shown_before i (let h = returned.0 in omega (arith, low, h)) (subst (λ (h : Held). IsBefore i h) (sym is) low))) returned.1)

-- without a fault, the rows are those of the lanes
pub rows_shown : (plan : Plan) (before : List Row) (rows : List JoinedRow) (s : Positions) (vectors : List Vector) → IsSelection s → s.below ≡ length rows → Shows plan rows (length plan.items) s.list None vectors
    → shown_after plan before rows ≡ Ok (before ++ map (lane_row vectors) s.list)
rows_shown plan before rows s vectors sound same shows = all_shown plan (lane_row vectors) before rows s sound same (λ i below. shown_before plan rows s.list None vectors shows i below tt)

among_at : (list : List ℕ) (k : ℕ) → k < length list → is_among list (get_or list k 0) ≡ true
among_at [] k below = absurd (omega (arith, below))
among_at (p ∷ ps) zero below = ap (λ (b : Bool). b || is_among ps p) (eq-eqb p p refl)
among_at (p ∷ ps) (suc k) below = or_second (eqb p (get_or ps k 0)) (is_among ps (get_or ps k 0)) (among_at ps k (omega (arith, below)))

-- and can be read
pub readable : (plan : Plan) (rows : List JoinedRow) (b : BatchSpec) (s : Positions) (vectors : List Vector) → IsBatchOf plan rows b → IsSelection s → s.below ≡ b.rows → Shows plan rows (length plan.items) s.list None vectors
    → All IsReadable (map (lane_row vectors) s.list)
readable plan rows b s vectors batch sound same shows = λ k d high.
    let long = length-map s.list (lane_row vectors) in
    let low : k < length s.list = omega (arith, high, long) in
    let i = get_or s.list k 0 in
    let among = among_at s.list k low in
    let below = selected_below s (length rows) sound (same ∙ sym batch.typed.are_rows.counted) i among in
    subst IsReadable (sym (get_or-map (lane_row vectors) s.list k 0 d low))
    (All-from_recursion (λ v. is_spelled v ≡ true) (lane_row vectors i)
    (spelled_values (group_types plan) (row_at rows i)
    (all_at (λ r. fits_row_types (group_types plan) r ≡ true) rows i (record { fact = []; joins = []; key = []; aggregates = [] }) (recursion_from_All (λ r. fits_row_types (group_types plan) r ≡ true) rows batch.typed.values) below)
    plan.items (lane_row vectors i)
    (typed_items plan rows b plan.items (recursion_from_All (λ i. (kind : ColType) × Fits (group_types plan) b.columns i.expr (Valued kind)) plan.items batch.items))
    (ap (λ es. values (map (λ i. i.expr) es) (row_at rows i)) (sym (take_all (length plan.items) plan.items (omega arith))) ∙ shows.given i among tt)))

-- ---- one lane after the other

pub spelled_at : (vectors : List Vector) (lane k : ℕ) (v : Vector) → k < length vectors → v ≡ get_or vectors k v → All (λ x. is_spelled x ≡ true) (lane_row vectors lane) → is_spelled (get_or (values_of v) lane Null) ≡ true
spelled_at vectors lane k v below at all = each vectors k below at (recursion_from_All (λ x. is_spelled x ≡ true) (lane_row vectors lane) all)
  where
    each : (vectors : List Vector) (k : ℕ) → k < length vectors → v ≡ get_or vectors k v → AllByRecursion (λ x. is_spelled x ≡ true) (lane_row vectors lane) → is_spelled (get_or (values_of v) lane Null) ≡ true
    each [] k below at all = absurd (omega (arith, below))
    each (w ∷ vectors) zero below at all = subst (λ (u : Vector). is_spelled (get_or (values_of u) lane Null) ≡ true) (sym at) all.0
    each (w ∷ vectors) (suc k) below at all = each vectors k (omega (arith, below)) at all.1
