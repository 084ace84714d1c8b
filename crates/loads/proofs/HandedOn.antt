-- Fragments that were handed on, and their files.
use Rattle.std.proofs.Common.{◌≡◌, ◌≤◌, ◌<◌, ℕ, zero, suc, ◌+◌, List, [], ◌∷◌, ◌++◌, length, take, drop, get_or, Ok, Err, refl, sym, subst, ap, ◌∙◌, arith, add-one}
use Rattle.std.specs.Prelude.{◌≢◌, IfOk, Result, Option, None, Some, slice_index}
use Rattle.std.specs.List.{enumerate_from}
use Rattle.std.proofs.lemmas.List.{length-drop, take_all}
use Rattle.meaning.specs.Cut.{Cut, first_row}
use Rattle.meaning.specs.declared.catalog.Column.{Column}
use Rattle.meaning.specs.declared.catalog.Table.{Table}
use Rattle.meaning.specs.declared.table.TableFault.{TableFault}
use Rattle.columns.specs.Column.{ColumnSpec}
use Rattle.fragment_file.specs.Fragment.{Stands, table_header}
use Rattle.fragment_file.specs.Writing.{AreColumns}
use Rattle.fragment_file.specs.declared.header.Header.{Header}
use Rattle.fragment_file.specs.declared.header.Slice.{Slice}
use Rattle.loader.specs.Columns.{AreRowsOf, declared_kind, kind_of}
use Rattle.loader.specs.Handing.{HandsOn, IsNextOf, IsToCome, declared_in, lengths_ahead}
use Rattle.loader.specs.declared.fact.FactReader.{FactReader}
use Rattle.loader.proofs.Handing.{IsHanded, first_handed, no_more, one_more}
use Rattle.folders.specs.Each.{AreEach}
use Rattle.folders.specs.Folder.{Change, Encloses}
use Rattle.folders.proofs.Each.{each_more, each_next, numbered_append}
use Rattle.loads.specs.Loading.{AreFragmentColumns, AreFragmentsClosed, IsFragmentClosed, IsNextSlice, header_of}

-- ---- the first of what is left of a list

head_suc : {A : Type 0} (all : List A) (k : ℕ) (x : A) (rest : List A) → drop k all ≡ x ∷ rest → (k < length all) × (x ≡ get_or all k x) × (drop (suc k) all ≡ rest)
head_suc [] zero x rest same = cc same
head_suc [] (suc k) x rest same = cc same
head_suc (y ∷ ys) zero x rest same = (omega arith, cc same, cc same)
head_suc (y ∷ ys) (suc k) x rest same =
    let (below, at, behind) = head_suc ys k x rest same in
    (omega (arith, below), at, behind)

pub head_of : {A : Type 0} (all : List A) (k : ℕ) (x : A) (rest : List A) → drop k all ≡ x ∷ rest → (k < length all) × (x ≡ get_or all k x) × (drop (k + 1) all ≡ rest)
head_of all k x rest same = rw add-one (head_suc all k x rest same)

-- ---- columns of a fragment

rows_are_columns : (declared : List Column) (n : ℕ) (columns : List ColumnSpec) → AreRowsOf declared n columns → AreColumns declared n columns
rows_are_columns [] n [] are = tt
rows_are_columns [] n (s ∷ columns) are = cc are.0
rows_are_columns (c ∷ declared) n [] are = cc are.0
rows_are_columns (c ∷ declared) n (s ∷ columns) are =
    let kinds : kind_of s ≡ declared_kind c = cc are.0 in
    (record { col_type = ap (λ p. p.0) kinds; nullable = ap (λ p. p.1) kinds; rows = cc are.1 }, rows_are_columns declared n columns (cc are.0, cc are.1))

-- ---- handing on

-- so many fragments were handed on, and these are their columns
pub record AreHandedOn {R : Type 0} (known : R → Option (List ℕ)) (before now : FactReader R) (table : Table) (cut : Cut) (k : ℕ) (done : List (List ColumnSpec)) : Type 0 where
  pub count : length done ≡ k
  pub columns : AreEach (AreFragmentColumns table) (take k cut) done
  pub declared : declared_in now ≡ table.columns
  pub ahead : lengths_ahead now ≡ drop k cut
  pub handed : (meant : Result (List (List ColumnSpec)) TableFault) → IsToCome known before meant → IsHanded known meant done now

pub none_yet : {R : Type 0} (known : R → Option (List ℕ)) (reader : FactReader R) (table : Table) (cut : Cut) → declared_in reader ≡ table.columns → lengths_ahead reader ≡ cut
    → AreHandedOn known reader reader table cut 0 []
none_yet known reader table cut same ahead = record {
  count = refl;
  columns = tt;
  declared = same;
  ahead = ahead;
  handed = λ meant coming. first_handed known meant [] reader refl coming;
}

-- the next of them
pub record IsNextHanded (table : Table) (cut : Cut) (k : ℕ) (ahead : List ℕ) (columns : List ColumnSpec) : Type 0 where
  pub below : k < length cut
  pub are : AreColumns table.columns (get_or cut k 0) columns
  pub behind : drop (k + 1) cut ≡ ahead

module _ {R : Type 0} (known : R → Option (List ℕ)) (before now after : FactReader R) (table : Table) (cut : Cut) (k : ℕ) (done : List (List ColumnSpec)) (so_far : AreHandedOn known before now table cut k done) where
  pub next_handed : (found : Option (List ColumnSpec)) (columns : List ColumnSpec) → found ≡ Some columns → IsNextOf (declared_in now) (lengths_ahead now) (lengths_ahead after) found
      → IsNextHanded table cut k (lengths_ahead after) columns
  next_handed None columns is next = cc is
  next_handed (Some x) columns is (n, split, rows) =
      let (below, at, behind) = head_of cut k n (lengths_ahead after) (sym so_far.ahead ∙ split) in
      let same : x ≡ columns = cc is in
      let here : get_or cut k 0 ≡ n = same_default cut k 0 n below ∙ sym at in
      record {
        below = below;
        are = subst (λ (c : List ColumnSpec). AreColumns table.columns (get_or cut k 0) c) same
            (subst (λ m. AreColumns table.columns m x) (sym here) (subst (λ (d : List Column). AreColumns d n x) so_far.declared (rows_are_columns (declared_in now) n x rows)));
        behind = behind;
      } where
        same_default : (l : List ℕ) (i d e : ℕ) → i < length l → get_or l i d ≡ get_or l i e
        same_default [] i d e below = absurd (omega arith)
        same_default (y ∷ ys) zero d e below = refl
        same_default (y ∷ ys) (suc i) d e below = same_default ys i d e (omega arith)

  pub handed_more : (found : Option (List ColumnSpec)) (columns : List ColumnSpec) → found ≡ Some columns → IsNextHanded table cut k (lengths_ahead after) columns → declared_in after ≡ declared_in now
      → ((meant : Result (List (List ColumnSpec)) TableFault) → IsToCome known now meant → HandsOn known meant after (Ok found)) → AreHandedOn known before after table cut (k + 1) (done ++ columns ∷ [])
  handed_more found columns is next same hands = record {
    count = longer done so_far.count;
    columns = each_next (AreFragmentColumns table) cut done (done ++ columns ∷ []) k (get_or cut k 0) columns next.below (same_twice cut k next.below) refl so_far.columns next.are;
    declared = same ∙ so_far.declared;
    ahead = sym next.behind;
    handed = λ meant coming. one_more known meant done now after (so_far.handed meant coming) found columns (done ++ columns ∷ []) is refl hands;
  } where
    longer : (l : List (List ColumnSpec)) → length l ≡ k → length (l ++ columns ∷ []) ≡ k + 1
    longer l count = length_more l columns ∙ ap (λ n. n + 1) count where
      length_more : {A : Type 0} (xs : List A) (x : A) → length (xs ++ x ∷ []) ≡ length xs + 1
      length_more [] x = refl
      length_more (y ∷ ys) x = let rest = length_more ys x in omega (arith, rest)

    same_twice : (l : List ℕ) (i : ℕ) → i < length l → get_or l i 0 ≡ get_or l i (get_or l i 0)
    same_twice [] i below = absurd (omega arith)
    same_twice (y ∷ ys) zero below = refl
    same_twice (y ∷ ys) (suc i) below = same_twice ys i (omega arith)

  -- none is left
  pub all_handed_on : (found : Option (List ColumnSpec)) → ((x : List ColumnSpec) → found ≢ Some x) → IsNextOf (declared_in now) (lengths_ahead now) (lengths_ahead after) found
      → ((meant : Result (List (List ColumnSpec)) TableFault) → IsToCome known now meant → HandsOn known meant after (Ok found))
      → AreEach (AreFragmentColumns table) cut done × ((meant : Result (List (List ColumnSpec)) TableFault) → IsToCome known before meant → meant ≡ Ok done)
  all_handed_on None none next hands =
      let over = ap length (sym so_far.ahead ∙ next) in
      let left = length-drop k cut in
      let few : length cut ≤ k = omega (arith, over, left) in (
        subst (λ (l : List ℕ). AreEach (AreFragmentColumns table) l done) (take_all k cut few) so_far.columns,
        λ meant coming. no_more known meant done now after (so_far.handed meant coming) None none hands,
      )
  all_handed_on (Some x) none next hands = absurd (none x refl)

-- ---- closed files

pub ok_part : {X E : Type 0} (r : Result X E) (x : X) (P : X → Type 0) → r ≡ Ok x → IfOk r P → P x
ok_part (Ok y) x P same holds = let here : y ≡ x = cc same in subst P here holds
ok_part (Err e) x P same holds = cc same

-- the header of the next rows
next_header : (load : ℕ) (table : Table) (cut : Cut) (fragments : List (List ColumnSpec)) (slice : Slice) → IsNextSlice cut fragments slice
    → table_header load table slice ≡ header_of load table (length fragments) (first_row cut (length fragments)) (slice_index cut (length fragments))
next_header load table cut fragments slice next = λ i. table_header load table (record { fragment = next.0 i; first_row = next.1 i; rows = next.2 i })

-- one file more is closed
pub closed_more : {P : Type 0} (enclosed : P → Option (List ℕ)) (wrote : Option (List Change)) (load : ℕ) (table : Table) (cut : Cut) (fragments : List (List ColumnSpec)) (columns : List ColumnSpec) (slice : Slice)
    (before after : List P) (file : P) → IsNextSlice cut fragments slice → after ≡ before ++ file ∷ [] → Encloses (λ bytes. Stands bytes (table_header load table slice) columns) wrote (enclosed file)
    → AreFragmentsClosed enclosed wrote load table cut fragments before → AreFragmentsClosed enclosed wrote load table cut (fragments ++ columns ∷ []) after
closed_more {P = P} enclosed wrote load table cut fragments columns slice before after file next put has all =
    let Is = IsFragmentClosed enclosed wrote load table cut in
    let this : Is (length fragments, columns) file = λ old known. let (bytes, are, stands) = has old known in (bytes, are, subst (λ (h : Header). Stands bytes h columns) (next_header load table cut fragments slice next) stands) in
    let count : 0 + length fragments ≡ length fragments = omega arith in
    subst (λ (l : List (ℕ × List ColumnSpec)). AreEach Is l after) (sym (numbered_append 0 fragments columns ∙ ap (λ n. enumerate_from 0 fragments ++ (n, columns) ∷ []) count))
    (subst (λ (l : List P). AreEach Is (enumerate_from 0 fragments ++ (length fragments, columns) ∷ []) l) (sym put) (each_more Is (enumerate_from 0 fragments) before (length fragments, columns) file all this))

pub none_closed : {P : Type 0} (enclosed : P → Option (List ℕ)) (wrote : Option (List Change)) (load : ℕ) (table : Table) (cut : Cut) (files : List P) → files ≡ [] → AreFragmentsClosed enclosed wrote load table cut [] files
none_closed enclosed wrote load table cut [] none = tt
none_closed enclosed wrote load table cut (f ∷ files) none = cc none

-- the rows behind those of as many fragments as were handed on
pub next_slice : (cut lengths : Cut) (k first rows : ℕ) (done : List (List ColumnSpec)) → length done ≡ k → first ≡ first_row cut k → lengths ≡ cut → rows ≡ get_or lengths k 0
    → IsNextSlice cut done (record { fragment = k; first_row = first; rows = rows })
next_slice cut lengths k first rows done count begins same long =
    (sym count, begins ∙ ap (first_row cut) (sym count), long ∙ ap (λ l. get_or l k 0) same ∙ ap (slice_index cut) (sym count))
