-- Reading parts in a loop, of which something else is kept.
use Rattle.std.proofs.Common.{◌≡◌, ℕ, suc, ◌-◌, ◌+◌, ◌≤◌, ◌<◌, Bool, true, ◌&&◌, List, [], ◌∷◌, ◌++◌, length, map, drop, get_or, Ok, Err, refl, sym, ap, ◌∙◌, append_assoc, arith}
use Rattle.std.specs.List.{list_all}
use Rattle.std.proofs.Math.Seq.{drop-cons}
use Rattle.std.proofs.Math.Bool.{and-true}
use Rattle.std.proofs.lemmas.List.{map-append, append-nil, drop_all}
use Rattle.std.proofs.lemmas.List.Folds.{list_all-append}
use Rattle.wire.specs.Reading.{◌>>=◌, Read, repeat_at}
use Rattle.wire.proofs.Loops.{read_behind, begins, goes_on, fails, finishes}
use Rattle.meaning.specs.declared.answer.Statistics.{Statistics}
use Rattle.answer_fields.specs.declared.fault.DecodeFault.{DecodeFault}
use Rattle.answer_fields.specs.declared.shape.AggregateShape.{AggregateShape}
use Rattle.answer_fields.specs.Keeping.{AreKept, IsKept, kept_state, has_possible_sum}
use Rattle.answer_fields.specs.LayoutReading.{state_at, states_at}

and_all : (a b : Bool) → (a && (b && true)) ≡ (a && b)
and_all a true = refl
and_all a b = ap (λ (c : Bool). a && c) (and-true b)

module _ {X : Type 0} (kept : X → X) (possible : X → Bool) where
  -- what is kept of those that were read
  pub record AreKeptOf (items : List X) (returned : Bool) (raw : List X) : Type 0 where
    pub parts : items ≡ map kept raw
    pub sums : returned ≡ list_all possible raw

  pub one_more : (given : List X) (flag : Bool) (raw : List X) (item : X) (is_possible : Bool) (x : X) → AreKeptOf given flag raw → item ≡ kept x → is_possible ≡ possible x
      → AreKeptOf (given ++ item ∷ []) (flag && is_possible) (raw ++ x ∷ [])
  one_more given flag raw item is_possible x so_far part sum = record {
    parts = rw (so_far.parts, part) (sym (map-append kept raw (x ∷ [])));
    sums = rw (so_far.sums, sum) (sym (and_all (list_all possible raw) (possible x)) ∙ sym (list_all-append possible raw (x ∷ [])));
  }

-- ---- parts of one form

module _ {E X : Type 0} (part : List ℕ → Read E X) (kept : X → X) (possible : X → Bool) where
  -- what was kept so far, and what reading the others gives behind it
  abbrev pub SoFar : List X → Bool → ℕ → List ℕ → Read E (List X) → Type 0
  SoFar items returned left rest all = (raw : List X) × AreKeptOf kept possible items returned raw × (read_behind part raw left rest ≡ all)

  pub kept_begins : (items : List X) (count i : ℕ) (bytes : List ℕ) → items ≡ [] → i ≡ 0 → SoFar items true (count - i) bytes (repeat_at part count bytes)
  kept_begins items count i bytes none first =
      let left : count - i ≡ count = omega (arith, first) in
      ([], record { parts = none; sums = refl }, ap (λ (n : ℕ). read_behind part [] n bytes) left ∙ begins part count bytes (repeat_at part count bytes) refl)

  pub kept_goes_on : (items : List X) (returned : Bool) (count i : ℕ) (bytes : List ℕ) (item : X) (flag : Bool) (rest : List ℕ) (all : Read E (List X)) → i < count
      → (x : X × List ℕ) × (part bytes ≡ Ok x) × IsKept kept possible item flag rest x → SoFar items returned (count - i) bytes all
      → SoFar (items ++ item ∷ []) (returned && flag) (count - (i + 1)) rest all
  kept_goes_on items returned count i bytes item flag rest all lt (x, read, is) (raw, so_far, behind) = (
    raw ++ x.0 ∷ [],
    one_more kept possible items returned raw item flag x.0 so_far is.part is.sums,
    ap (λ (r : List ℕ). read_behind part (raw ++ x.0 ∷ []) (count - (i + 1)) r) is.behind ∙ goes_on part raw count i bytes x.0 x.1 all lt read behind,
  )

  pub kept_fails : (items : List X) (returned : Bool) (count i : ℕ) (bytes : List ℕ) (e : E) (all : Read E (List X)) → i < count → part bytes ≡ Err e → SoFar items returned (count - i) bytes all → all ≡ Err e
  kept_fails items returned count i bytes e all lt wrong (raw, so_far, behind) = fails part raw count i bytes e all lt wrong behind

  pub kept_finishes : (items : List X) (returned : Bool) (count i : ℕ) (bytes : List ℕ) (all : Read E (List X)) → count ≤ i → SoFar items returned (count - i) bytes all
      → (y : List X × List ℕ) × (all ≡ Ok y) × AreKept kept possible items returned bytes y
  kept_finishes items returned count i bytes all le (raw, so_far, behind) =
      ((raw, bytes), finishes part raw count i bytes all le behind, record { parts = so_far.parts; sums = so_far.sums; behind = refl })

-- ---- states, each by its aggregate

abbrev behind_all : List Statistics → Read DecodeFault (List Statistics) → Read DecodeFault (List Statistics)
behind_all before read = read >>= λ behind. Ok (before ++ behind.0, behind.1)

moved : (before : List Statistics) (s : Statistics) (read : Read DecodeFault (List Statistics)) → behind_all before (read >>= λ behind. Ok (s ∷ behind.0, behind.1)) ≡ behind_all (before ++ s ∷ []) read
moved before s (Ok behind) = ap (λ (xs : List Statistics). Ok (xs, behind.1)) (sym (append_assoc before (s ∷ []) behind.0))
moved before s (Err e) = refl

unmoved : (read : Read DecodeFault (List Statistics)) → behind_all [] read ≡ read
unmoved (Ok behind) = refl
unmoved (Err e) = refl

abbrev pub StatesSoFar : List Statistics → Bool → List AggregateShape → List ℕ → Read DecodeFault (List Statistics) → Type 0
StatesSoFar items returned left rest all = (raw : List Statistics) × AreKeptOf kept_state has_possible_sum items returned raw × (behind_all raw (states_at left rest) ≡ all)

pub states_begin : (items : List Statistics) (aggregates : List AggregateShape) (i : ℕ) (bytes : List ℕ) → items ≡ [] → i ≡ 0 → StatesSoFar items true (drop i aggregates) bytes (states_at aggregates bytes)
states_begin items aggregates i bytes none first = ([], record { parts = none; sums = refl }, rw first (unmoved (states_at aggregates bytes)))

pub states_go_on : (items : List Statistics) (returned : Bool) (aggregates : List AggregateShape) (i : ℕ) (d : AggregateShape) (bytes : List ℕ) (item : Statistics) (flag : Bool) (rest : List ℕ) (all : Read DecodeFault (List Statistics)) → i < length aggregates
    → (x : Statistics × List ℕ) × (state_at (get_or aggregates i d).kind bytes ≡ Ok x) × IsKept kept_state has_possible_sum item flag rest x → StatesSoFar items returned (drop i aggregates) bytes all
    → StatesSoFar (items ++ item ∷ []) (returned && flag) (drop (i + 1) aggregates) rest all
unfolding states_at
states_go_on items returned aggregates i d bytes item flag rest all lt (x, read, is) (raw, so_far, behind) =
    let next : suc i ≡ i + 1 = omega arith in
    let first : behind_all raw (states_at (drop i aggregates) bytes) ≡ behind_all (raw ++ x.0 ∷ []) (states_at (drop (suc i) aggregates) x.1) =
    rw (drop-cons aggregates i d lt, read) (moved raw x.0 (states_at (drop (suc i) aggregates) x.1)) in (
      raw ++ x.0 ∷ [],
      one_more kept_state has_possible_sum items returned raw item flag x.0 so_far is.part is.sums,
      ap (λ (r : List ℕ). behind_all (raw ++ x.0 ∷ []) (states_at (drop (i + 1) aggregates) r)) is.behind
          ∙ ap (λ (n : ℕ). behind_all (raw ++ x.0 ∷ []) (states_at (drop n aggregates) x.1)) (sym next) ∙ sym first ∙ behind,
    )

pub states_fail : (items : List Statistics) (returned : Bool) (aggregates : List AggregateShape) (i : ℕ) (d : AggregateShape) (bytes : List ℕ) (e : DecodeFault) (all : Read DecodeFault (List Statistics)) → i < length aggregates
    → state_at (get_or aggregates i d).kind bytes ≡ Err e → StatesSoFar items returned (drop i aggregates) bytes all → all ≡ Err e
unfolding states_at
states_fail items returned aggregates i d bytes e all lt wrong (raw, so_far, behind) =
    let first : behind_all raw (states_at (drop i aggregates) bytes) ≡ Err e = rw (drop-cons aggregates i d lt, wrong) refl in
    sym behind ∙ first

pub states_finish : (items : List Statistics) (returned : Bool) (aggregates : List AggregateShape) (i : ℕ) (bytes : List ℕ) (all : Read DecodeFault (List Statistics)) → length aggregates ≤ i → StatesSoFar items returned (drop i aggregates) bytes all
    → (y : List Statistics × List ℕ) × (all ≡ Ok y) × AreKept kept_state has_possible_sum items returned bytes y
unfolding states_at
states_finish items returned aggregates i bytes all le (raw, so_far, behind) =
    let last : behind_all raw (states_at (drop i aggregates) bytes) ≡ Ok (raw, bytes) = rw (drop_all i aggregates le) (ap (λ (xs : List Statistics). Ok (xs, bytes)) (append-nil raw)) in
    ((raw, bytes), sym behind ∙ last, record { parts = so_far.parts; sums = so_far.sums; behind = refl })
