-- HAVING and the items over vectors.
use Rattle.std.proofs.Common.{◌≡◌, ◌≢◌, ℕ, zero, suc, ◌+◌, ◌<◌, inl, inr, eqb, Bool, true, false, ◌&&◌, ◌||◌, List, [], ◌∷◌, ◌++◌, get_or, map, take, drop, length, None, Some, Ok, Err, refl, ap, sym, subst, ◌∙◌, arith}
use Rattle.std.specs.Prelude.{All, Option, Result, IfSome, option_to_list}
use Rattle.std.specs.List.{AllByRecursion, range_with_len}
use Rattle.std.proofs.lemmas.Bool.{eqb-true, false≢true}
use Rattle.std.proofs.lemmas.List.{map-append, map_push, take-append-drop, take_more, drop_more}
use Rattle.std.proofs.lemmas.List.Elements.{recursion_from_All}
use Rattle.meaning.specs.declared.expr.Expr.{Expr}
use Rattle.meaning.specs.declared.joined_row.JoinedRow.{JoinedRow}
use Rattle.meaning.specs.declared.outcome.Fault.{Fault}
use Rattle.meaning.specs.declared.outcome.Truth.TheVariants.{True, False, Unknown}
use Rattle.meaning.specs.declared.outcome.Outcome.{Outcome}
use Rattle.meaning.specs.declared.outcome.Outcome.TheVariants as gives
use Rattle.meaning.specs.declared.plan.Item.{Item}
use Rattle.meaning.specs.declared.plan.Plan.{Plan}
use Rattle.meaning.specs.declared.value.ColType.{ColType}
use Rattle.meaning.specs.declared.value.Value.TheVariants.{Null}
use Rattle.meaning.specs.Expr.{eval, values, with_value}
use Rattle.meaning.specs.Finish.{behind_having, rows_behind, shown}
use Rattle.meaning.specs.Operators.{code_of, value_of}
use Rattle.meaning.specs.Order.{Row}
use Rattle.meaning.specs.Results.{and_then}
use Rattle.meaning.specs.Typing.{ExprType, RowTypes, Valued, Boolean, group_types}
use Rattle.meaning.proofs.Tests.{second_of}
use Rattle.vectors.specs.Selection.{IsSelection, Positions, all_below, is_among}
use Rattle.vectors.specs.Vector.{BatchSpec, values_of}
use Rattle.vectors.specs.declared.vector.Vector.{Vector}
use Rattle.vectors.proofs.Ascending.{among_range}
use Rattle.vector_operators.specs.Evaluated.{Evaluates, Held, IsBefore, lane_of}
use Rattle.vector_operators.specs.Given.{is_true_lane}
use Rattle.vector_operators.proofs.Composes.{before_old}
use Rattle.vector_operators.proofs.LaneValues.{lane_sound, lane_value}
use Rattle.primitives.specs.Fitting.{AreTypedRows, Fits}
use Rattle.primitives.specs.Meant.{meant_at, row_at}
use Rattle.primitives.specs.Narrowed.{Narrows}
use Rattle.last_step.specs.Batches.{IsBatchOf, Shows, lane_row}

-- ---- HAVING

right_false : (a b : Bool) → a ≡ true → (a && b) ≡ false → b ≡ false
right_false true b t e = e
right_false false b t e = absurd cc

passes : (o : Outcome) (rest : Result (List Row) ℕ) → is_true_lane o ≡ true → rows_behind o rest ≡ rest
passes (gives.Fault f) rest e = absurd cc
passes (gives.Truth True) rest e = refl
passes (gives.Truth Unknown) rest e = absurd cc
passes (gives.Truth False) rest e = absurd cc
passes (gives.Value v) rest e = absurd cc

drops : (o : Outcome) (rest : Result (List Row) ℕ) → is_true_lane o ≡ false → ((f : Fault) → o ≢ gives.Fault f) → rows_behind o rest ≡ Ok []
drops (gives.Fault f) rest e sound = absurd (sound f refl)
drops (gives.Truth True) rest e sound = absurd cc
drops (gives.Truth Unknown) rest e sound = refl
drops (gives.Truth False) rest e sound = refl
drops (gives.Value v) rest e sound = refl

among_within : (a n i : ℕ) → is_among (range_with_len a n) i ≡ true → i < a + n
among_within a zero i among = absurd cc
among_within a (suc n) i among =
    elim (eqb a i) as (λ b. eqb a i ≡ b → (b || is_among (range_with_len (a + 1) n) i) ≡ true → i < a + suc n) [
      | true ↦ λ e h. let same = eqb-true a i e in omega (arith, same)
      | false ↦ λ e h. let rest = among_within (a + 1) n i h in omega (arith, rest)
    ] refl among

module _ (plan : Plan) (rows : List JoinedRow) where
  abbrev exprs : List Expr
  exprs = map (λ i. i.expr) plan.items

  -- the fault that is held is that of the row there
  abbrev IsReturned : Held → Type 0
  IsReturned h = IfSome h (λ f. (f.position < length rows) × (shown plan (row_at rows f.position) ≡ Err (code_of f.fault)))

  abbrev shown_row : ℕ → Result (List Row) ℕ
  shown_row i = and_then (values exprs (row_at rows i)) (λ row. Ok (row ∷ []))

  -- without HAVING all groups are kept
  pub all_kept : plan.having ≡ None → Shows plan rows 0 (range_with_len 0 (length rows)) None []
  all_kept none = record {
    kept = λ i among before rest. ap (λ h. behind_having h (row_at rows i) rest) none;
    dropped = λ i among below before. absurd (false≢true (sym among ∙ among_range 0 (length rows) i (omega arith) (omega (arith, below))));
    given = λ i among before. refl;
    fault = tt;
  }

  -- those of which HAVING is TRUE
  pub having_kept : (condition : Expr) (selected : List ℕ) (held : Held) → plan.having ≡ Some condition → Narrows (meant_at condition rows) (range_with_len 0 (length rows)) selected None held
      → Shows plan rows 0 selected held []
  having_kept condition selected held is narrows = record {
    kept = λ i among before rest.
        let kept = second_of (is_among (range_with_len 0 (length rows)) i) (is_true_lane (meant_at condition rows i)) (sym (narrows.kept i before) ∙ among) in
        ap (λ h. behind_having h (row_at rows i) rest) is ∙ passes (eval condition (row_at rows i)) rest kept;
    dropped = λ i among below before.
        let was = among_range 0 (length rows) i (omega arith) (omega (arith, below)) in
        let gone = right_false (is_among (range_with_len 0 (length rows)) i) (is_true_lane (meant_at condition rows i)) was (sym (narrows.kept i before) ∙ among) in
        ap (λ h. behind_having h (row_at rows i) (shown_row i)) is ∙ drops (eval condition (row_at rows i)) (shown_row i) gone (narrows.sound i was before);
    given = λ i among before. refl;
    fault = elim narrows.origin [
      | inl same ↦ subst IsReturned (sym same) tt
      | inr f ↦ subst IsReturned (sym f.is_new)
          ((
            let below = among_within 0 (length rows) f.position f.is_selected in omega (arith, below),
            ap (λ h. behind_having h (row_at rows f.position) (shown_row f.position)) is ∙ ap (λ o. rows_behind o (shown_row f.position)) f.is_meant,
          ))
    ];
  }

  -- ---- items

  values_more : (es : List Expr) (e : Expr) (s : JoinedRow) (row : Row) → values es s ≡ Ok row → ((f : Fault) → eval e s ≢ gives.Fault f) → values (es ++ e ∷ []) s ≡ Ok (row ++ value_of (eval e s) ∷ [])
  values_more [] e s row is sound = let none : [] ≡ row = cc in last (eval e s) sound ∙ ap (λ (r : Row). Ok (r ++ value_of (eval e s) ∷ [])) none
    where
      last : (o : Outcome) → ((f : Fault) → o ≢ gives.Fault f) → with_value o (Ok []) ≡ Ok (value_of o ∷ [])
      last (gives.Fault f) sound = absurd (sound f refl)
      last (gives.Value v) sound = refl
      last (gives.Truth t) sound = refl
  values_more (x ∷ es) e s row is sound = by (eval x s) (values es s) refl is (λ vs later. values_more es e s vs later sound)
    where
      by : (o : Outcome) (r : Result Row ℕ) → values es s ≡ r → with_value o r ≡ Ok row
          → ((vs : Row) → values es s ≡ Ok vs → values (es ++ e ∷ []) s ≡ Ok (vs ++ value_of (eval e s) ∷ [])) → with_value o (values (es ++ e ∷ []) s) ≡ Ok (row ++ value_of (eval e s) ∷ [])
      by (gives.Fault f) r later is go = absurd cc
      by (gives.Value v) (Err c) later is go = absurd cc
      by (gives.Truth t) (Err c) later is go = absurd cc
      by (gives.Value v) (Ok vs) later is go =
          let parts : v ∷ vs ≡ row = cc in
          ap (with_value (gives.Value v)) (go vs later) ∙ ap (λ (r : Row). Ok (r ++ value_of (eval e s) ∷ [])) parts
      by (gives.Truth t) (Ok vs) later is go =
          let parts : Null ∷ vs ≡ row = cc in
          ap (with_value (gives.Truth t)) (go vs later) ∙ ap (λ (r : Row). Ok (r ++ value_of (eval e s) ∷ [])) parts

  values_fault : (es : List Expr) (e : Expr) (rest : List Expr) (s : JoinedRow) (row : Row) (f : Fault) → values es s ≡ Ok row → eval e s ≡ gives.Fault f → values (es ++ e ∷ rest) s ≡ Err (code_of f)
  values_fault [] e rest s row f is faults = ap (λ o. with_value o (values rest s)) faults
  values_fault (x ∷ es) e rest s row f is faults = by (eval x s) (values es s) refl is (λ vs later. values_fault es e rest s vs f later faults)
    where
      by : (o : Outcome) (r : Result Row ℕ) → values es s ≡ r → with_value o r ≡ Ok row → ((vs : Row) → values es s ≡ Ok vs → values (es ++ e ∷ rest) s ≡ Err (code_of f))
          → with_value o (values (es ++ e ∷ rest) s) ≡ Err (code_of f)
      by (gives.Fault g) r later is go = absurd cc
      by (gives.Value v) (Err c) later is go = absurd cc
      by (gives.Truth t) (Err c) later is go = absurd cc
      by (gives.Value v) (Ok vs) later is go = ap (with_value (gives.Value v)) (go vs later)
      by (gives.Truth t) (Ok vs) later is go = ap (with_value (gives.Truth t)) (go vs later)

  abbrev first : ℕ → List Expr
  first k = map (λ x. x.expr) (take k plan.items)

  -- one item more
  pub one_more_item : (k : ℕ) (i : Item) (selected : List ℕ) (held now : Held) (vectors : List Vector) (v : Vector) → k < length plan.items → i ≡ get_or plan.items k i
      → Evaluates (meant_at i.expr rows) (λ p. is_among selected p ≡ true) held now (lane_of v) → ((p : ℕ) → is_among selected p ≡ true → p < length rows)
      → Shows plan rows k selected held vectors → Shows plan rows (k + 1) selected now (vectors ++ v ∷ [])
  one_more_item k i selected held now vectors v below at evaluated within shows = record {
    kept = λ p among before. shows.kept p among (earlier p before);
    dropped = λ p among low before. shows.dropped p among low (earlier p before);
    given = λ p among before.
        let is = evaluated.exact p among before in
        ap (λ es. values es (row_at rows p)) more
        ∙ values_more (first k) i.expr (row_at rows p) (lane_row vectors p) (shows.given p among (earlier p before)) (λ f faults. lane_sound v p f (is ∙ faults))
        ∙ ap (λ o. Ok (lane_row vectors p ++ value_of o ∷ [])) (sym is)
        ∙ ap (λ x. Ok (lane_row vectors p ++ x ∷ [])) (lane_value v p)
        ∙ ap Ok (sym (map_push (λ w. get_or (values_of w) p Null) vectors v));
    fault = elim evaluated.origin [
      | inl same ↦ subst IsReturned (sym same) shows.fault
      | inr f ↦ subst IsReturned (sym f.is_new)
          ((
            within f.position f.is_selected,
            shows.kept f.position f.is_selected f.is_before (and_then (values exprs (row_at rows f.position)) (λ row. Ok (row ∷ [])))
                ∙ ap (λ r. and_then r (λ row. Ok (row ∷ []))) (ap (λ es. values es (row_at rows f.position)) all
                ∙ values_fault (first k) i.expr (map (λ x. x.expr) (drop (k + 1) plan.items)) (row_at rows f.position) (lane_row vectors f.position) f.fault (shows.given f.position f.is_selected f.is_before) f.is_meant),
          ))
    ];
  }
    where
      earlier : (p : ℕ) → IsBefore p now → IsBefore p held
      earlier p before = before_old (meant_at i.expr rows) (λ p. is_among selected p ≡ true) held now evaluated.origin p before

      more : map (λ x. x.expr) (take (k + 1) plan.items) ≡ first k ++ i.expr ∷ []
      more = ap (map (λ x. x.expr)) (take_more plan.items k i below ∙ ap (λ (y : Item). take k plan.items ++ y ∷ []) (sym at)) ∙ map_push (λ x. x.expr) (take k plan.items) i

      all : exprs ≡ first k ++ i.expr ∷ map (λ x. x.expr) (drop (k + 1) plan.items)
      all =
          ap (map (λ x. x.expr)) (sym (take-append-drop k plan.items) ∙ ap (λ (ys : List Item). take k plan.items ++ ys) (drop_more plan.items k i below ∙ ap (λ (y : Item). y ∷ drop (k + 1) plan.items) (sym at)))
          ∙ map-append (λ x. x.expr) (take k plan.items) (i ∷ drop (k + 1) plan.items)

-- ---- positions

below_all : (n : ℕ) (xs : List ℕ) (i : ℕ) → AllByRecursion (λ p. p < n) xs → is_among xs i ≡ true → i < n
below_all n [] i all among = absurd cc
below_all n (x ∷ xs) i all among =
    elim (eqb x i) as (λ b. eqb x i ≡ b → (b || is_among xs i) ≡ true → i < n) [
      | true ↦ λ e h. let same = eqb-true x i e in let below = all.0 in omega (arith, same, below)
      | false ↦ λ e h. below_all n xs i all.1 h
    ] refl among

pub selected_below : (s : Positions) (n : ℕ) → IsSelection s → s.below ≡ n → (i : ℕ) → is_among s.list i ≡ true → i < n
selected_below s n sound same i among = let below = below_all s.below s.list i (recursion_from_All (λ p. p < s.below) s.list sound.within) among in omega (arith, below, same)

-- ---- in the words of the calls

pub none_kept : (plan : Plan) (rows : List JoinedRow) (s : Positions) (n : ℕ) (held : Held) → plan.having ≡ None → s ≡ all_below n → length rows ≡ n → held ≡ None → Shows plan rows 0 s.list held []
none_kept plan rows s n held none is counted held_none =
    let range : range_with_len 0 (length rows) ≡ s.list = ap (range_with_len 0) counted ∙ sym (ap (λ (p : Positions). p.list) is) in
    subst (λ (h : Held). Shows plan rows 0 s.list h []) (sym held_none) (subst (λ (xs : List ℕ). Shows plan rows 0 xs None []) range (all_kept plan rows none))

pub some_kept : (plan : Plan) (rows : List JoinedRow) (condition : Expr) (s : Positions) (n : ℕ) (old held : Held) (selected : List ℕ) → plan.having ≡ Some condition → s ≡ all_below n → length rows ≡ n → old ≡ None
    → Narrows (meant_at condition rows) s.list selected old held → Shows plan rows 0 selected held []
some_kept plan rows condition s n old held selected some is counted old_none narrows =
    let range : s.list ≡ range_with_len 0 (length rows) = ap (λ (p : Positions). p.list) is ∙ sym (ap (range_with_len 0) counted) in
    having_kept plan rows condition selected held some
    (subst (λ (h : Held). Narrows (meant_at condition rows) (range_with_len 0 (length rows)) selected h held) old_none (subst (λ (xs : List ℕ). Narrows (meant_at condition rows) xs selected old held) range narrows))

pub having_fits : (plan : Plan) (rows : List JoinedRow) (b : BatchSpec) (condition : Expr) → plan.having ≡ Some condition → IsBatchOf plan rows b → Fits (group_types plan) b.columns condition Boolean
having_fits plan rows b condition some batch =
    (subst (λ (h : Option Expr). All (λ e. Fits (group_types plan) b.columns e Boolean) (option_to_list h)) some batch.having) 0 condition (omega arith)

-- vectors of the first items, from a fault that was held on
abbrev pub AreEvaluated : Plan → BatchSpec → List ℕ → ℕ → Held → Held → List Vector → Type 0
AreEvaluated plan b selected k start now vectors =
    (rows : List JoinedRow) → IsBatchOf plan rows b
    → Shows plan rows 0 selected start [] → Shows plan rows k selected now vectors

pub no_vector : (plan : Plan) (b : BatchSpec) (selected : List ℕ) (start : Held) (vectors : List Vector) → vectors ≡ [] → AreEvaluated plan b selected 0 start start vectors
no_vector plan b selected start vectors none rows batch shows = subst (Shows plan rows 0 selected start) (sym none) shows

pub next_vector : (plan : Plan) (b : BatchSpec) (s : Positions) (k : ℕ) (i : Item) (start held now : Held) (vectors more : List Vector) (v : Vector) → IsSelection s → s.below ≡ b.rows
    → k < length plan.items → i ≡ get_or plan.items k i
    → ((types : RowTypes) (type : ExprType) (rows : List JoinedRow) → AreTypedRows types b rows → Fits types b.columns i.expr type → Evaluates (meant_at i.expr rows) (λ p. is_among s.list p ≡ true) held now (lane_of v))
    → more ≡ vectors ++ v ∷ [] → AreEvaluated plan b s.list k start held vectors → AreEvaluated plan b s.list (k + 1) start now more
next_vector plan b s k i start held now vectors more v sound same below at evaluates pushed old rows batch shows =
    let fits = subst (λ (x : Item). (kind : ColType) × Fits (group_types plan) b.columns x.expr (Valued kind)) (sym at) (batch.items k i below) in
    subst (Shows plan rows (k + 1) s.list now) (sym pushed)
    (one_more_item plan rows k i s.list held now vectors v below at (evaluates (group_types plan) (Valued fits.0) rows batch.typed fits.1) (selected_below s (length rows) sound (same ∙ sym batch.typed.are_rows.counted)) (old rows batch shows))
