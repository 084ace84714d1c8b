-- What a file's records show, from record to record.
use Rattle.std.proofs.Common.{◌≡◌, ℕ, zero, suc, ◌+◌, ◌<◌, ◌≤◌, Bool, true, false, List, [], ◌∷◌, ◌++◌, length, map, take, drop, get_or, set, refl, sym, ap, subst, ◌∙◌, append_assoc, arith, ⊎_elim}
use Rattle.std.specs.Prelude.{◌&&◌, ◌||◌, if◌then◌else◌, Option, None, Some, Result, Ok, replicate, slice_get}
use Rattle.std.specs.List.{list_all, list_any, range_with_len}
use Rattle.std.proofs.lemmas.Bool.{cases_eq, true≢false}
use Rattle.std.proofs.lemmas.List.{append-nil, drop_all, ext_get_or, length-set, length_push, take_all, get_or-set_same, get_or-set_other}
use Rattle.std.proofs.lemmas.List.Folds.{list_all-append, list_any-append}
use Rattle.std.proofs.lemmas.List.FromFn.{get_or-map-range_with_len, length-map-range_with_len}
use Rattle.csv.specs.declared.reader.Reader.{Reader}
use Rattle.meaning.specs.declared.catalog.Column.{Column}
use Rattle.meaning.specs.Records.{Record, spells_null}
use Rattle.loader.proofs.Judging.{from_index}
use Rattle.loader.specs.Source.{IsLeft, TakesNext}
use Rattle.init.specs.declared.fault.ColumnFault.{ColumnFault}
use Rattle.init.specs.declared.fault.InitFault.{InitFault}
use Rattle.init.specs.declared.fault.InitFault.TheVariants as fault
use Rattle.init.specs.declared.fault.PathFault.TheVariants as path_fault
use Rattle.init.specs.declared.findings.Findings.{Findings}
use Rattle.init.specs.Findings.{shows_integer, with_field_if}
use Rattle.init.specs.Guessing.{IsColumnUnnamed, IsHeaderRefused}
use Rattle.init.specs.Refusing.{IsOfPath, IsUnread}
use Rattle.init.specs.Shown.{IsLack, Lack, column_of, columns_of, found_at, found_in, is_null, may_be_integer, named, names_from, names_of, shown}

-- ---- the header

-- behind these names the header has this field
pub name_more : (fields before : List (List ℕ)) (index : ℕ) (field name : List ℕ) → names_from [] fields ≡ names_from before (drop index fields) → slice_get fields index ≡ Some field → named before field ≡ Ok name
    → names_from [] fields ≡ names_from (before ++ name ∷ []) (drop (index + 1) fields)
name_more fields before index field name so_far there is = so_far ∙ rw (from_index fields index field there, is) refl

pub name_lacking : (fields before : List (List ℕ)) (index : ℕ) (field path : List ℕ) (e : InitFault) → names_from [] fields ≡ names_from before (drop index fields) → length before ≡ index → slice_get fields index ≡ Some field
    → IsColumnUnnamed path index (named before field) e → IsLack (names_from [] fields) e
name_lacking fields before index field path fault.Memory so_far long there of = tt
name_lacking fields before index field path (fault.Column file column lack) so_far long there of =
    (index, of.1, so_far ∙ rw (from_index fields index field there, of.2, long) refl)
name_lacking fields before index field path _ so_far long there of = absurd of

pub name_counted : (before : List (List ℕ)) (name : List ℕ) (index : ℕ) → length before ≡ index → length (before ++ name ∷ []) ≡ index + 1
name_counted before name index long = length_push before name ∙ ap (λ n. n + 1) long

-- a field that isn't there is past the end
pub past_end : (fields : List (List ℕ)) (index : ℕ) → slice_get fields index ≡ None → length fields ≤ index
past_end [] index none = omega arith
past_end (f ∷ fields) zero none = absurd cc none
past_end (f ∷ fields) (suc index) none = let more = past_end fields index none in omega (arith, more)

pub all_named : (fields before : List (List ℕ)) (index : ℕ) → length fields ≤ index → names_from [] fields ≡ names_from before (drop index fields) → names_from [] fields ≡ Ok before
all_named fields before index past so_far = so_far ∙ ap (names_from before) (drop_all index fields past)

pub unnamed_refused : (path : List ℕ) (index : ℕ) (meant : Result (List ℕ) ColumnFault) (e : InitFault) → IsColumnUnnamed path index meant e → IsHeaderRefused path e
unnamed_refused path index meant fault.Memory of = tt
unnamed_refused path index meant (fault.Column file column lack) of = of.0
unnamed_refused path index meant _ of = absurd of

pub unread_refused : (path : List ℕ) (e : InitFault) → IsUnread path e → IsHeaderRefused path e
unread_refused path fault.Memory of = tt
unread_refused path (fault.Path file path_fault.CannotRead) of = of
unread_refused path _ of = absurd of

-- a file that can't be read says nothing of its header
pub unread_lacking : (path : List ℕ) (meant : Result (List Column) Lack) (e : InitFault) → IsUnread path e → IsLack meant e
unread_lacking path meant fault.Memory of = tt
unread_lacking path meant (fault.Path file path_fault.CannotRead) of = tt
unread_lacking path meant _ of = absurd of

-- what the header lacks the table lacks
pub lacking_shown : (header : Record) (rows : List Record) (e : InitFault) → IsLack (names_of header) e → IsLack (shown (header ∷ rows)) e
lacking_shown header rows (fault.Path file path_fault.NoHeader) of = rw of refl
lacking_shown header rows (fault.Path file path_fault.TooManyColumns) of = rw of refl
lacking_shown header rows (fault.Column file column lack) (index, counted, of) = (index, counted, rw of refl)
lacking_shown header rows _ of = tt

pub no_header : (path : List ℕ) (rows : List Record) (e : InitFault) → rows ≡ [] → IsOfPath path path_fault.NoHeader e → IsLack (shown rows) e
no_header path rows fault.Memory none of = tt
no_header path rows (fault.Path file kind) none of = rw (of.1, none) refl
no_header path rows _ none of = absurd of

pub shown_ok : (rows : List Record) (header : Record) (rest : List Record) (names : List (List ℕ)) (findings : List Findings) → rows ≡ header ∷ rest → names_of header ≡ Ok names → findings ≡ found_in (length names) rest → shown rows ≡ Ok (columns_of names findings)
shown_ok rows header rest names findings are is found = rw (are, is, found) refl

-- ---- the records

module _ {R : Type 0} (known : R → Option (List ℕ)) where
  pub none_next : (after : Reader R) (rest : List Record) (more : Bool) (fields : Record) → more ≡ false → TakesNext known after rest more fields → rest ≡ []
  none_next after rest false fields never taken = taken
  none_next after rest true fields never taken = absurd (true≢false never)

  pub one_next : (after : Reader R) (rest : List Record) (more : Bool) (fields : Record) → more ≡ true → TakesNext known after rest more fields → (others : List Record) × (rest ≡ fields ∷ others) × IsLeft known after others
  one_next after rest true fields there taken = taken
  one_next after rest false fields there taken = absurd (true≢false (sym there))

pub none_left : (columns : ℕ) (rows seen rest : List Record) (findings : List Findings) → rows ≡ seen ++ rest → rest ≡ [] → findings ≡ found_in columns seen → findings ≡ found_in columns rows
none_left columns rows seen rest findings are none found = found ∙ ap (found_in columns) (sym (are ∙ ap (λ ys. seen ++ ys) none ∙ append-nil seen))

pub one_gone : (rows seen rest : List Record) (row : Record) (others : List Record) → rows ≡ seen ++ rest → rest ≡ row ∷ others → rows ≡ (seen ++ row ∷ []) ++ others
one_gone rows seen rest row others are is = are ∙ ap (λ ys. seen ++ ys) is ∙ sym (append_assoc seen (row ∷ []) others)

pub grown : (before columns : ℕ) (seen : List Record) (row : Record) (findings after : List Findings) → before ≡ columns → ((rows : List Record) → findings ≡ found_in before rows → after ≡ found_in before (rows ++ row ∷ [])) → findings ≡ found_in columns seen
    → after ≡ found_in columns (seen ++ row ∷ [])
grown before columns seen row findings after long taken found = subst (λ n. after ≡ found_in n (seen ++ row ∷ [])) long (taken seen (subst (λ n. findings ≡ found_in n seen) (sym long) found))

abbrev found : Bool → Bool → Findings
found integers nulls = record { integers = integers; nulls = nulls }

-- a field more, in the order in which the findings are asked
with_one : (integers nulls : Bool) (field : Option (List ℕ)) → with_field_if (found integers nulls) field ≡ found (integers && (may_be_integer field && true)) (nulls || (is_null field || false))
with_one true true None = refl
with_one true false None = refl
with_one false true None = refl
with_one false false None = refl
with_one integers nulls (Some field) = of integers nulls (spells_null field) (shows_integer field) where
  of : (i n is_null is_integer : Bool) → (if is_null then found i true else found (i && is_integer) n) ≡ found (i && ((is_null || is_integer) && true)) (n || (is_null || false))
  of true true true true = refl
  of true true true false = refl
  of true true false true = refl
  of true true false false = refl
  of true false true true = refl
  of true false true false = refl
  of true false false true = refl
  of true false false false = refl
  of false true true true = refl
  of false true true false = refl
  of false true false true = refl
  of false true false false = refl
  of false false true true = refl
  of false false true false = refl
  of false false false true = refl
  of false false false false = refl

-- a row more
found_more : (rows : List Record) (row : Record) (index : ℕ) → with_field_if (found_at rows index) (slice_get row index) ≡ found_at (rows ++ row ∷ []) index
found_more rows row index =
    with_one (list_all (λ (r : Record). may_be_integer (slice_get r index)) rows) (list_any (λ (r : Record). is_null (slice_get r index)) rows) (slice_get row index)
    ∙ (λ k. found (sym (list_all-append (λ (r : Record). may_be_integer (slice_get r index)) rows (row ∷ [])) k) (sym (list_any-append (λ (r : Record). is_null (slice_get r index)) rows (row ∷ [])) k))

-- the columns in front have taken the row, and the others have yet to
abbrev pub IsTaken : ℕ → ℕ → List Record → Record → List Findings → Type 0
IsTaken columns index rows row findings = (length findings ≡ columns) × ((k : ℕ) (d : Findings) → k < columns → (k < index → get_or findings k d ≡ found_at (rows ++ row ∷ []) k) × (index ≤ k → get_or findings k d ≡ found_at rows k))

pub none_taken : (columns : ℕ) (rows : List Record) (row : Record) → IsTaken columns 0 rows row (found_in columns rows)
none_taken columns rows row = (
  length-map-range_with_len (found_at rows) 0 columns,
  λ k d below. (λ front. absurd (omega (arith, front)), λ behind. get_or-map-range_with_len (found_at rows) 0 columns k k d below (omega arith)),
)

pub one_taken : (columns index : ℕ) (rows : List Record) (row : Record) (findings : List Findings) (one : Findings) (x : Findings) → index < columns → IsTaken columns index rows row findings → x ≡ get_or findings index x → one ≡ with_field_if x (slice_get row index)
    → IsTaken columns (index + 1) rows row (set findings index one)
one_taken columns index rows row findings one x within (long, so_far) there is = (
  length-set findings index one ∙ long,
  λ k d below. (
    λ front. ⊎_elim (λ same. at_index k d same below) (λ apart. get_or-set_other findings index k one d apart ∙ (so_far k d below).0 (omega (arith, front, apart))) (cases_eq k index),
    λ behind. get_or-set_other findings index k one d (omega (arith, behind)) ∙ (so_far k d below).1 (omega (arith, behind)),
  ),
) where
  at_index : (k : ℕ) (d : Findings) → k ≡ index → k < columns → get_or (set findings index one) k d ≡ found_at (rows ++ row ∷ []) k
  at_index k d same below = rw same (
      get_or-set_same findings index one d (omega (arith, within, long)) ∙ is
      ∙ ap (λ f. with_field_if f (slice_get row index)) (there ∙ (so_far index x within).1 (omega arith))
      ∙ found_more rows row index
      )

pub all_taken : (columns index : ℕ) (rows : List Record) (row : Record) (findings : List Findings) → columns ≤ index → IsTaken columns index rows row findings → findings ≡ found_in columns (rows ++ row ∷ [])
all_taken columns index rows row findings past (long, taken) =
    ext_get_or (found true false) findings (found_in columns (rows ++ row ∷ [])) (long ∙ sym (length-map-range_with_len (found_at (rows ++ row ∷ [])) 0 columns))
    (λ k below. (taken k (found true false) (omega (arith, below, long))).0 (omega (arith, below, long, past))
    ∙ sym (get_or-map-range_with_len (found_at (rows ++ row ∷ [])) 0 columns k k (found true false) (omega (arith, below, long)) (omega arith)))

-- of no record nothing is found
pub found_in_none : (columns : ℕ) → replicate columns (found true false) ≡ found_in columns []
found_in_none columns = from 0 columns where
  from : (start n : ℕ) → replicate n (found true false) ≡ map (found_at []) (range_with_len start n)
  from start zero = refl
  from start (suc n) = ap (λ fs. found true false ∷ fs) (from (start + 1) n)

pub fresh : (columns : ℕ) (findings : List Findings) → findings ≡ replicate columns (found true false) → (length findings ≡ columns) × (findings ≡ found_in (length findings) [])
fresh columns findings is =
    let none = is ∙ found_in_none columns in
    let long = ap length none ∙ length-map-range_with_len (found_at []) 0 columns in
    (long, none ∙ ap (λ n. found_in n []) (sym long))

-- as many findings in the place of others
pub all_replaced : (columns : ℕ) (found others : List Findings) → columns ≡ length others → length found ≡ length others → take columns (found ++ drop (length found) others) ≡ found
all_replaced columns found others all long =
    ap (λ fs. take columns (found ++ fs)) (drop_all (length found) others (omega (arith, long))) ∙ ap (take columns) (append-nil found) ∙ take_all columns found (omega (arith, all, long))

-- ---- the columns

column_suc : (names : List (List ℕ)) (findings : List Findings) (index : ℕ) (name : List ℕ) (one d : Findings) → index < length names → length findings ≡ length names → name ≡ get_or names index name → one ≡ get_or findings index d
    → columns_of (take (suc index) names) (take (suc index) findings) ≡ columns_of (take index names) (take index findings) ++ column_of name one ∷ []
column_suc [] findings index name one d below long is there = absurd (omega (arith, below))
column_suc (n ∷ names) [] index name one d below long is there = absurd (omega (arith, long))
column_suc (n ∷ names) (f ∷ findings) zero name one d below long is there = λ k. column_of (sym is k) (sym there k) ∷ []
column_suc (n ∷ names) (f ∷ findings) (suc index) name one d below long is there =
    ap (λ cs. column_of n f ∷ cs) (column_suc names findings index name one d (omega (arith, below)) (omega (arith, long)) is there)

pub column_more : (names : List (List ℕ)) (findings : List Findings) (index : ℕ) (name : List ℕ) (one d : Findings) → index < length names → length findings ≡ length names → name ≡ get_or names index name → one ≡ get_or findings index d
    → columns_of (take index names) (take index findings) ++ column_of name one ∷ [] ≡ columns_of (take (index + 1) names) (take (index + 1) findings)
column_more names findings index name one d below long is there =
    let on : suc index ≡ index + 1 = omega arith in
    sym (column_suc names findings index name one d below long is there) ∙ ap (λ n. columns_of (take n names) (take n findings)) on
