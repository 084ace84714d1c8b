-- The fragments that are made one after the other are those of the whole table.
use Rattle.std.proofs.Common.{◌≡◌, ◌≤◌, ◌<◌, inl, inr, ℕ, suc, ◌+◌, Bool, true, false, List, [], ◌∷◌, ◌++◌, length, map, take, drop, Ok, Err, None, refl, sym, subst, ap, ◌∙◌, arith}
use Rattle.std.specs.Prelude.{Result, nat_lt, sum, if◌then◌else◌}
use Rattle.std.specs.List.{enumerate_from}
use Rattle.std.proofs.lemmas.Bool.{lt-ltb, le-ltb, le-leb, lt-leb, cases_lt}
use Rattle.std.proofs.lemmas.List.{length-append, take_all, take-append-drop, length-take}
use Rattle.std.proofs.Math.Seq.{take-append_seam, drop-append_seam, drop-append-add}
use Rattle.meaning.specs.declared.catalog.Column.{Column}
use Rattle.meaning.specs.declared.table.TableFault.{TableFault}
use Rattle.meaning.specs.declared.table.TableFault.TheVariants as fault
use Rattle.meaning.specs.Order.{Row}
use Rattle.meaning.specs.Records.{Record, row_of, judged_record, unless_few, unless_repeated}
use Rattle.meaning.specs.Results.{and_then, with_result}
use Rattle.meaning_laws.proofs.Cuts.{sum_cons}
use Rattle.columns.specs.Column.{ColumnSpec}
use Rattle.columns.specs.Rows.{columns_of}
use Rattle.loader.specs.Columns.{fragments_of}
use Rattle.loader.specs.Steps.{rows_of, fragments_at, unless_more}
use Rattle.loader.proofs.RowRuns.{ok_parts, behind, all_from, parts_from}

-- without a key nothing is repeated
alone : (r : Result Row TableFault) (i : ℕ) (earlier : List (Result Row TableFault)) → and_then r (unless_repeated None i earlier) ≡ r
alone (Ok row) i earlier = refl
alone (Err f) i earlier = refl

ok_length : {A X E : Type 0} (judge : ℕ × A → Result X E) (first : ℕ) (zs : List A) (xs : List X) → all_from judge first zs ≡ Ok xs → length xs ≡ length zs
ok_length judge first [] [] e = refl
ok_length judge first [] (x ∷ xs) e = cc e
ok_length judge first (z ∷ zs) xs e =
    let (y, ys, here, others, all) = ok_parts (judge (first, z)) (all_from judge (first + 1) zs) xs e in
    ap length all ∙ ap (λ n. suc n) (ok_length judge (first + 1) zs ys others)

err_in_front : {X E : Type 0} (r : Result X E) (all more : Result (List X) E) (f : E) → with_result r all ≡ Err f → (all ≡ Err f → more ≡ Err f) → with_result r more ≡ Err f
err_in_front (Err g) all more f e later = e
err_in_front (Ok y) (Err g) more f e later = rw (later e) refl
err_in_front (Ok y) (Ok zs) more f e later = cc e

-- a fault in front is the fault of all
err_parts : {A X E : Type 0} (judge : ℕ × A → Result X E) (first : ℕ) (xs ys : List A) (f : E) → all_from judge first xs ≡ Err f → all_from judge first (xs ++ ys) ≡ Err f
err_parts judge first [] ys f e = cc e
err_parts judge first (x ∷ xs) ys f e =
    err_in_front (judge (first, x)) (all_from judge (first + 1) xs) (all_from judge (first + 1) (xs ++ ys)) f e (err_parts judge (first + 1) xs ys f)

module _ (declared : List Column) (order : List ℕ) (most : ℕ) (whole : List Record) where
  abbrev judge : ℕ × Record → Result Row TableFault
  judge = judged_record declared None most order whole

  in_limit : (i : ℕ) (fields : Record) → i < most → judge (i, fields) ≡ row_of declared order i fields
  in_limit i fields within = rw (lt-leb most i within) (alone (row_of declared order i fields) i (map (λ e. row_of declared order e.0 e.1) (enumerate_from 0 (take i whole))))

  over_limit : (i : ℕ) (fields : Record) → most ≤ i → judge (i, fields) ≡ Err fault.TooManyRows
  over_limit i fields over = rw (le-leb most i over) refl

  -- within the limit the rows are judged by themselves
  rows_alone : (first : ℕ) (rest : List Record) → first + length rest ≤ most → all_from judge first rest ≡ rows_of declared order first rest
  rows_alone first [] le = refl
  rows_alone first (f ∷ rest) le =
      let here = in_limit first f (omega arith) in
      let others = rows_alone (first + 1) rest (omega arith) in
      rw (here, others) refl

  -- the rows of a table, cut into fragments
  abbrev cut_rows : List ℕ → Result (List Row) TableFault → Result (List (List ColumnSpec)) TableFault
  cut_rows lengths all = and_then (and_then all (unless_few (sum lengths))) (λ rows. Ok (fragments_of declared lengths rows))

  abbrev in_columns : List Row → Result (List (List ColumnSpec)) TableFault → Result (List (List ColumnSpec)) TableFault
  in_columns rows all = and_then all (λ others. Ok (columns_of declared rows ∷ others))

  -- the first fragment stands in front of the others
  by_few : (n : ℕ) (lengths : List ℕ) (rows more : List Row) (b c : Bool) → b ≡ c → length rows ≡ n
      → and_then (if b then Err fault.TooFewRows else Ok (rows ++ more)) (λ all. Ok (fragments_of declared (n ∷ lengths) all))
      ≡ in_columns rows (and_then (if c then Err fault.TooFewRows else Ok more) (λ all. Ok (fragments_of declared lengths all)))
  by_few n lengths rows more true true e long = refl
  by_few n lengths rows more true false e long = cc e
  by_few n lengths rows more false true e long = cc e
  by_few n lengths rows more false false e long = rw (sym long, take-append_seam rows more, drop-append_seam rows more) refl

  fewer_alike : (n s : ℕ) (rows more : List Row) → length rows ≡ n → nat_lt (length (rows ++ more)) (n + s) ≡ nat_lt (length more) s
  fewer_alike n s rows more long = elim (cases_lt (length more) s) [
    | inl lt ↦ lt-ltb (length (rows ++ more)) (n + s) (omega (arith, lt, long, length-append rows more)) ∙ sym (lt-ltb (length more) s lt)
    | inr le ↦ le-ltb (length (rows ++ more)) (n + s) (omega (arith, le, long, length-append rows more)) ∙ sym (le-ltb (length more) s le)
  ]

  in_front : (n : ℕ) (lengths : List ℕ) (rows : List Row) (all : Result (List Row) TableFault) → length rows ≡ n → cut_rows (n ∷ lengths) (behind rows all) ≡ in_columns rows (cut_rows lengths all)
  in_front n lengths rows (Err f) long = refl
  in_front n lengths rows (Ok more) long = by_few n lengths rows more (nat_lt (length (rows ++ more)) (sum (n ∷ lengths))) (nat_lt (length more) (sum lengths)) (ap (nat_lt (length (rows ++ more))) (sum_cons n lengths) ∙ fewer_alike n (sum lengths) rows more long) long

  -- records that are left over are reported behind the fragments
  left_over : (rows : List Row) (rest : List Record) (all : Result (List (List ColumnSpec)) TableFault) → in_columns rows (and_then all (unless_more rest)) ≡ and_then (in_columns rows all) (unless_more rest)
  left_over rows rest (Err f) = refl
  left_over rows [] (Ok others) = refl
  left_over rows (r ∷ rest) (Ok others) = refl

  abbrev pub judged_from : ℕ → List Record → Result (List Row) TableFault
  judged_from = all_from judge

  -- what is to be shown of records from an index on
  abbrev IsCut : List ℕ → ℕ → List Record → Type 0
  IsCut lengths first rest = cut_rows lengths (judged_from first rest) ≡ and_then (fragments_at declared order first lengths rest) (unless_more (drop (sum lengths) rest))

  -- the records of the first fragment, and those behind it
  enough_in : (n : ℕ) (lengths : List ℕ) (first : ℕ) (xs ys : List Record) (all : Result (List Row) TableFault) → length xs ≡ n → first + n ≤ most
      → rows_of declared order first xs ≡ all → IsCut lengths (first + n) ys
      → cut_rows (n ∷ lengths) (judged_from first (xs ++ ys)) ≡ and_then (and_then (and_then all (λ rows. Ok rows)) (λ rows. and_then (fragments_at declared order (first + n) lengths ys) (λ others. Ok (columns_of declared rows ∷ others)))) (unless_more (drop (sum lengths) ys))
  enough_in n lengths first xs ys (Err f) long le judged later =
      let failed = err_parts judge first xs ys f (rows_alone first xs (omega (arith, le, long)) ∙ judged) in
      ap (cut_rows (n ∷ lengths)) failed
  enough_in n lengths first xs ys (Ok rows) long le judged later =
      let mine = rows_alone first xs (omega (arith, le, long)) ∙ judged in
      let parts = parts_from judge first xs ys rows mine ∙ ap (λ k. behind rows (judged_from (first + k) ys)) long in
      let many = ok_length judge first xs rows mine ∙ long in
      ap (cut_rows (n ∷ lengths)) parts ∙ in_front n lengths rows (judged_from (first + n) ys) many
      ∙ ap (in_columns rows) later ∙ left_over rows (drop (sum lengths) ys) (fragments_at declared order (first + n) lengths ys)

  -- there are too few records for the first fragment
  few_in : (n : ℕ) (lengths : List ℕ) (first : ℕ) (rest : List Record) (all : Result (List Row) TableFault) → length rest < n → first + n ≤ most
      → rows_of declared order first rest ≡ all
      → cut_rows (n ∷ lengths) (judged_from first rest) ≡ and_then (and_then (and_then all (λ rows. Err fault.TooFewRows)) (λ rows. and_then (fragments_at declared order (first + n) lengths (drop n rest)) (λ others. Ok (columns_of declared rows ∷ others)))) (unless_more (drop (sum (n ∷ lengths)) rest))
  few_in n lengths first rest (Err f) lt le judged = ap (cut_rows (n ∷ lengths)) (rows_alone first rest (omega (arith, le, lt)) ∙ judged)
  few_in n lengths first rest (Ok rows) lt le judged =
      let mine = rows_alone first rest (omega (arith, le, lt)) ∙ judged in
      let many = ok_length judge first rest rows mine in
      ap (cut_rows (n ∷ lengths)) mine ∙ ap (λ b. and_then (if b then Err fault.TooFewRows else Ok rows) (λ all. Ok (fragments_of declared (n ∷ lengths) all))) (lt-ltb (length rows) (sum (n ∷ lengths)) (omega (arith, many, lt, sum_cons n lengths)))

  cut_enough : (n : ℕ) (lengths : List ℕ) (first : ℕ) (xs ys : List Record) → length xs ≡ n → first + n ≤ most → IsCut lengths (first + n) ys → IsCut (n ∷ lengths) first (xs ++ ys)
  cut_enough n lengths first xs ys long le later =
      let front : take n (xs ++ ys) ≡ xs = rw (sym long) (take-append_seam xs ys) in
      let others : drop n (xs ++ ys) ≡ ys = rw (sym long) (drop-append_seam xs ys) in
      let not_fewer = le-ltb (length (xs ++ ys)) n (omega (arith, long, length-append xs ys)) in
      let left : drop (sum (n ∷ lengths)) (xs ++ ys) ≡ drop (sum lengths) ys = ap (λ k. drop k (xs ++ ys)) (sum_cons n lengths ∙ ap (λ k. k + sum lengths) (sym long)) ∙ drop-append-add xs ys (sum lengths) in
      rw (front, others, not_fewer, left) (enough_in n lengths first xs ys (rows_of declared order first xs) long le refl later)

  pub cut_from : (lengths : List ℕ) (first : ℕ) (rest : List Record) → first + sum lengths ≡ most → IsCut lengths first rest
  cut_from [] first [] total = refl
  cut_from [] first (f ∷ rest) total = rw (over_limit first f (omega (arith, total))) refl
  cut_from (n ∷ lengths) first rest total =
      let more = sum_cons n lengths in
      let later = cut_from lengths (first + n) (drop n rest) (omega (arith, total, more)) in
      elim (cases_lt (length rest) n) [
        | inl lt ↦
            let all = take_all n rest (omega (arith, lt)) in
            let fewer = lt-ltb (length rest) n lt in
            rw (all, fewer) (few_in n lengths first rest (rows_of declared order first rest) lt (omega (arith, total, more)) refl)
        | inr le ↦
            subst (λ xs. IsCut (n ∷ lengths) first xs) (take-append-drop n rest)
            (cut_enough n lengths first (take n rest) (drop n rest) (omega (arith, length-take n rest, le)) (omega (arith, total, more)) later)
      ]
