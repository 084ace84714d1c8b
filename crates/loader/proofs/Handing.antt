-- The fragments that are handed on, and those that are still to come.
use Rattle.std.proofs.Common.{◌≡◌, ℕ, ◌+◌, List, [], ◌∷◌, ◌++◌, append_assoc, drop, Ok, Err, Option, Some, None, Bool, true, false, refl, sym, ap, ◌∙◌}
use Rattle.std.specs.Prelude.{◌≢◌, IfSome, Result, sum}
use Rattle.std.proofs.lemmas.List.{append-nil, drop-drop}
use Rattle.meaning.specs.declared.catalog.Column.{Column}
use Rattle.meaning.specs.declared.table.TableFault.{TableFault}
use Rattle.meaning.specs.declared.table.TableFault.TheVariants as fault
use Rattle.meaning.specs.Order.{Row}
use Rattle.meaning.specs.Records.{Record}
use Rattle.meaning.specs.Results.{and_then}
use Rattle.meaning_laws.proofs.Cuts.{sum_cons}
use Rattle.columns.specs.Column.{ColumnSpec}
use Rattle.columns.specs.Rows.{columns_of}
use Rattle.loader.specs.Fault.{fault_returned}
use Rattle.loader.specs.Handing.{HandsOn, IsToCome, declared_in, in_front, lengths_ahead}
use Rattle.loader.specs.Source.{IsLeft}
use Rattle.loader.specs.declared.fact.FactReader.{FactReader}
use Rattle.loader.specs.declared.fault.LoadFault.{LoadFault}
use Rattle.loader.specs.declared.fault.LoadFault.TheVariants.{Memory, Table, Device}
use Rattle.loader.specs.Steps.{TakesFragment, enough_rows, fragments_at, fragments_left, is_more, unless_more}
use Rattle.loader.proofs.RowRuns.{behind, behind_none}

-- a record that is left over is reported behind all fragments
left_over : (fragment : List ColumnSpec) (rest : List Record) (all : Result (List (List ColumnSpec)) TableFault) → and_then (in_front fragment all) (unless_more rest) ≡ in_front fragment (and_then all (unless_more rest))
left_over fragment rest (Err f) = refl
left_over fragment [] (Ok others) = refl
left_over fragment (r ∷ rest) (Ok others) = refl

module _ (declared : List Column) (order : List ℕ) (first n : ℕ) (lengths : List ℕ) (rest : List Record) where
  -- the next fragment stands in front of the others
  pub next_in_front : (rows : List Row) → enough_rows declared order first n rest ≡ Ok rows
      → fragments_left declared order first (n ∷ lengths) rest ≡ in_front (columns_of declared rows) (fragments_left declared order (first + n) lengths (drop n rest))
  next_in_front rows enough =
      let behind : drop (sum (n ∷ lengths)) rest ≡ drop (sum lengths) (drop n rest) = ap (λ k. drop k rest) (sum_cons n lengths) ∙ sym (drop-drop (sum lengths) n rest) in
      rw (enough, behind) (left_over (columns_of declared rows) (drop (sum lengths) (drop n rest)) (fragments_at declared order (first + n) lengths (drop n rest)))

  -- its fault is the first
  pub next_fails : (f : TableFault) → enough_rows declared order first n rest ≡ Err f → fragments_left declared order first (n ∷ lengths) rest ≡ Err f
  next_fails f fails = rw fails refl

same_left : (d e : List Column) (o p : List ℕ) (first from : ℕ) (lengths ns : List ℕ) (rest : List Record) → e ≡ d → p ≡ o → from ≡ first → ns ≡ lengths → fragments_left d o first lengths rest ≡ fragments_left e p from ns rest
same_left d e o p first from lengths ns rest same ordered begins long = rw (same, ordered, begins, long) refl

-- these fragments are to come from a reader that stands so
pub to_come : {R : Type 0} (known : R → Option (List ℕ)) (reader : FactReader R) (declared : List Column) (order : List ℕ) (first : ℕ) (lengths : List ℕ) (rest : List Record) → IsLeft known reader.rows.reader rest
    → declared_in reader ≡ declared → reader.rows.order.columns.items ≡ order → reader.ahead.first ≡ first → lengths_ahead reader ≡ lengths
    → IsToCome known reader (fragments_left declared order first lengths rest)
to_come known reader declared order first lengths rest left same ordered begins long = record {
  rest = rest;
  left = left;
  is = same_left declared (declared_in reader) order reader.rows.order.columns.items first reader.ahead.first lengths (lengths_ahead reader) rest same ordered begins long;
}

module _ {R : Type 0} (known : R → Option (List ℕ)) (before after : FactReader R) (meant : Result (List (List ColumnSpec)) TableFault) (coming : IsToCome known before meant) (n : ℕ) (lengths : List ℕ) (split : lengths_ahead before ≡ n ∷ lengths) where
  abbrev declared : List Column
  declared = declared_in before

  abbrev order : List ℕ
  order = before.rows.order.columns.items

  whole : meant ≡ fragments_left declared order before.ahead.first (n ∷ lengths) coming.rest
  whole = coming.is ∙ ap (λ ns. fragments_left declared order before.ahead.first ns coming.rest) split

  pub next_refused : (e : LoadFault) → TakesFragment known declared order before.ahead.first n coming.rest after.rows.reader (Err e) → HandsOn known meant after (Err e)
  next_refused (Table f) taken = whole ∙ next_fails declared order before.ahead.first n lengths coming.rest f taken
  next_refused Memory taken = tt
  next_refused Device taken = tt

  pub next_handed : (fragment : List ColumnSpec) → TakesFragment known declared order before.ahead.first n coming.rest after.rows.reader (Ok fragment)
      → declared_in after ≡ declared → after.rows.order.columns.items ≡ order → after.ahead.first ≡ before.ahead.first + n → lengths_ahead after ≡ lengths → HandsOn known meant after (Ok (Some fragment))
  next_handed fragment (rows, enough, columns, on) same ordered begins long = (
    fragments_left declared order (before.ahead.first + n) lengths (drop n coming.rest),
    whole ∙ next_in_front declared order before.ahead.first n lengths coming.rest rows enough
        ∙ ap (λ (f : List ColumnSpec). in_front f (fragments_left declared order (before.ahead.first + n) lengths (drop n coming.rest))) (sym columns),
    to_come known after declared order (before.ahead.first + n) lengths (drop n coming.rest) on same ordered begins long,
  )

-- ---- behind the last

none_ahead : (rest : List Record) (found : Bool) → found ≡ is_more rest → found ≡ false → unless_more rest [] ≡ Ok []
none_ahead [] found more none = refl
none_ahead (r ∷ rest) found more none = cc (more, none)

one_ahead : (rest : List Record) (found : Bool) → found ≡ is_more rest → found ≡ true → unless_more rest [] ≡ Err fault.TooManyRows
one_ahead [] found more one = cc (more, one)
one_ahead (r ∷ rest) found more one = refl

module _ {R : Type 0} (known : R → Option (List ℕ)) (reader : FactReader R) (meant : Result (List (List ColumnSpec)) TableFault) (coming : IsToCome known reader meant) (none : lengths_ahead reader ≡ [])
    (found : Bool) (more : (rest : List Record) → IsLeft known reader.rows.reader rest → found ≡ is_more rest) where
  last : meant ≡ unless_more coming.rest []
  last = coming.is ∙ ap (λ ns. fragments_left (declared_in reader) reader.rows.order.columns.items reader.ahead.first ns coming.rest) none

  pub all_handed : found ≡ false → meant ≡ Ok []
  all_handed is = last ∙ none_ahead coming.rest found (more coming.rest coming.left) is

  pub too_many : found ≡ true → meant ≡ Err fault.TooManyRows
  too_many is = last ∙ one_ahead coming.rest found (more coming.rest coming.left) is

-- ---- all of them

in_front_of : (done : List (List ColumnSpec)) (fragment : List ColumnSpec) (others : Result (List (List ColumnSpec)) TableFault) → behind done (in_front fragment others) ≡ behind (done ++ fragment ∷ []) others
in_front_of done fragment (Err f) = refl
in_front_of done fragment (Ok fragments) = ap (λ (fs : List (List ColumnSpec)). Ok fs) (sym (append_assoc done (fragment ∷ []) fragments))

-- these were handed on, and the others are to come
abbrev pub IsHanded : {R : Type 0} → (R → Option (List ℕ)) → Result (List (List ColumnSpec)) TableFault → List (List ColumnSpec) → FactReader R → Type 0
IsHanded known meant done reader = (others : Result (List (List ColumnSpec)) TableFault) × (meant ≡ behind done others) × IsToCome known reader others

module _ {R : Type 0} (known : R → Option (List ℕ)) (meant : Result (List (List ColumnSpec)) TableFault) (done : List (List ColumnSpec)) where
  pub first_handed : (reader : FactReader R) → done ≡ [] → IsToCome known reader meant → IsHanded known meant done reader
  first_handed reader none coming = (meant, behind_none meant ∙ ap (λ (fs : List (List ColumnSpec)). behind fs meant) (sym none), coming)

  module _ (before after : FactReader R) (handed : IsHanded known meant done before) where
    pub one_more : (found : Option (List ColumnSpec)) (fragment : List ColumnSpec) (now : List (List ColumnSpec)) → found ≡ Some fragment → now ≡ done ++ fragment ∷ []
        → ((others : Result (List (List ColumnSpec)) TableFault) → IsToCome known before others → HandsOn known others after (Ok found)) → IsHanded known meant now after
    one_more None fragment now is put hands = cc is
    one_more (Some x) fragment now is put hands =
        let (others, all, coming) = handed in
        let (later, front, on) = hands others coming in
        let same : x ≡ fragment = cc is in (
          later,
          all ∙ ap (behind done) front ∙ in_front_of done x later ∙ ap (λ (f : List ColumnSpec). behind (done ++ f ∷ []) later) same ∙ ap (λ (fs : List (List ColumnSpec)). behind fs later) (sym put),
          on,
        )

    pub no_more : (found : Option (List ColumnSpec)) → ((x : List ColumnSpec) → found ≢ Some x) → ((others : Result (List (List ColumnSpec)) TableFault) → IsToCome known before others → HandsOn known others after (Ok found))
        → meant ≡ Ok done
    no_more None none hands =
        let (others, all, coming) = handed in
        all ∙ ap (behind done) (hands others coming) ∙ ap (λ (fs : List (List ColumnSpec)). Ok fs) (append-nil done)
    no_more (Some x) none hands = absurd (none x refl)

    pub one_refused : (e : LoadFault) → ((others : Result (List (List ColumnSpec)) TableFault) → IsToCome known before others → HandsOn known others after (Err e)) → IfSome (fault_returned e) (λ f. meant ≡ Err f)
    one_refused (Table f) hands =
        let (others, all, coming) = handed in
        all ∙ ap (behind done) (hands others coming)
    one_refused Memory hands = tt
    one_refused Device hands = tt
