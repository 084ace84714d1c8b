-- A reader of row groups, and what it does.
use Rattle.std.specs.Prelude.{◌≡◌, ◌≢◌, ℕ, ◌+◌, ◌≤◌, Bool, true, false, List, [], ◌∷◌, ◌++◌, Option, Some, None, is_some, Result, Ok, Err, IfOk, IfErr, IfSome, OnErr}
use Rattle.meaning.specs.Limits.{max_rows}
use Rattle.sha2.specs.Hashers.{Holds256}
use Rattle.blocks.specs.Block.{Block}
use Rattle.fragment_file.specs.declared.fault.FileFault.{FileFault}
use Rattle.fragment_file.specs.declared.fault.FileFault.TheVariants.{Memory, Device}
use Rattle.fragment_file.specs.declared.header.Header.{Header}
use Rattle.fragment_file.specs.declared.view.BlockLocation.{BlockLocation}
use Rattle.fragment_file.specs.Fragment.{IsHeader, group_sizes}
use Rattle.fragment_file.specs.View.{rows_of}
use Rattle.group_reader.specs.declared.source.Source.{Source}
use Rattle.group_reader.specs.declared.standing.Standing.{Standing}
use Rattle.group_reader.specs.declared.standing.Standing.TheVariants.{Between, AtGroup, AtEnd, Refused}
use Rattle.group_reader.specs.Coming.{Coming, coming_at, coming_behind, header_read, with_group}
use Rattle.group_reader.specs.Located.{AreLocated}
use Rattle.group_reader.specs.Source.{MayBeLeft, Yields}

-- what callers see of a reader: what it reads from, the header, how many row groups came, how many rows are left behind
-- them, and the row group that stands
pub record ReaderSpec (R : Type 0) : Type 0 where
  pub source : Source R
  pub header : Header
  pub came : ℕ
  pub left : ℕ
  pub standing : Standing
  pub current : Option (List Block)

abbrev pub current_in : Standing → List Block → Option (List Block)
current_in Between blocks = None
current_in AtGroup blocks = Some blocks
current_in AtEnd blocks = None
current_in (Refused e) blocks = None

abbrev pub IsStanding : Standing → Header → List ℕ → List BlockLocation → Type 0
IsStanding Between header bytes locations = Unit {0}
IsStanding AtGroup header bytes locations = (rows : ℕ) × (1 ≤ rows) × AreLocated header.columns rows bytes locations
IsStanding AtEnd header bytes locations = Unit {0}
IsStanding (Refused e) header bytes locations = Unit {0}

-- at the end no row is left
abbrev pub IsOver : Standing → ℕ → Type 0
IsOver Between left = Unit {0}
IsOver AtGroup left = Unit {0}
IsOver AtEnd left = left ≡ 0
IsOver (Refused e) left = Unit {0}

-- what holds of every reader
pub record IsReader (h : Header) (came left : ℕ) (standing : Standing) (bytes : List ℕ) (locations : List BlockLocation) : Type 0 where
  pub header : IsHeader h
  pub few : came + left ≤ max_rows
  pub stands : IsStanding standing h bytes locations
  pub over : IsOver standing left

-- a reader that may have more to give
abbrev pub IsOpen : Standing → Type 0
IsOpen Between = Unit {0}
IsOpen AtGroup = Unit {0}
IsOpen AtEnd = ⊥
IsOpen (Refused e) = ⊥

-- the fault that a reader refused with
abbrev pub refused_by : Standing → Option FileFault
refused_by Between = None
refused_by AtGroup = None
refused_by AtEnd = None
refused_by (Refused e) = Some e

abbrev pub refused_in : {R : Type 0} → ReaderSpec R → Option FileFault
refused_in g = refused_by g.standing

-- ---- what is to come

abbrev pub only : Option FileFault → Coming
only end = record { groups = []; end = end }

abbrev pub coming_from : Standing → Header → ℕ → ℕ → List ℕ → List ℕ → Coming
coming_from Between header came left all rest = coming_at came header.columns (group_sizes left) all rest
coming_from AtGroup header came left all rest = coming_at came header.columns (group_sizes left) all rest
coming_from AtEnd header came left all rest = only None
coming_from (Refused e) header came left all rest = only (Some e)

-- the row groups, and then the end, that are to come of a reader which has the rest of all bytes left
abbrev pub coming_of : {R : Type 0} → ReaderSpec R → List ℕ → List ℕ → Coming
coming_of g all rest = coming_from g.standing g.header g.came g.left all rest

-- these row groups, and then this end, may be to come: those of the bytes that a reader gave and of others that may be left
abbrev pub MayCome : {R : Type 0} → (R → Option (List ℕ)) → ReaderSpec R → Coming → Type 0
MayCome known g c = (front : List ℕ) → Holds256 g.source.hasher front → (rest : List ℕ) × MayBeLeft (known g.source.reader) rest × (c ≡ coming_of g (front ++ rest) rest)

-- a row group came: it is the first that was to come, and then those that are to come now, whatever stands behind the bytes
-- that were given
pub record GroupCame {R : Type 0} (known : R → Option (List ℕ)) (old new : ReaderSpec R) : Type 0 where
  pub group : List Block
  pub given : List ℕ
  pub yields : Yields known old.source new.source given
  pub comes : (all rest : List ℕ) → coming_of old all (given ++ rest) ≡ with_group group (coming_of new all rest)
  pub stands : new.current ≡ Some group

-- the end came: there are bytes that may be left in which none was to come, and nothing is wrong with the end
pub record EndCame {R : Type 0} (known : R → Option (List ℕ)) (old new : ReaderSpec R) : Type 0 where
  pub was : MayCome known old (only None)
  pub still : (all rest : List ℕ) → coming_of new all rest ≡ only None
  pub none : new.current ≡ None

-- a call went on to the first of what was to come, or told the end of it; or there are bytes that may be left in which what
-- it told was to come in its place, unless memory was wanting or the reader failed
abbrev pub GoesOn : {R : Type 0} → (R → Option (List ℕ)) → ReaderSpec R → ReaderSpec R → Result Bool FileFault → Type 0
GoesOn known old new (Ok true) = GroupCame known old new
GoesOn known old new (Ok false) = EndCame known old new
GoesOn known old new (Err e) = e ≢ Memory → e ≢ Device → MayCome known old (only (Some e))

-- whether a row group stands
abbrev pub IsThere : Bool → Option (List Block) → Type 0
IsThere true current = (group : List Block) × (current ≡ Some group)
IsThere false current = current ≡ None

-- of the rows that were left the row group that came has the first, and at least one; at the end none was left
abbrev pub Counts : Bool → ℕ → ℕ → Option (List Block) → Type 0
Counts true old new current = IfSome current (λ group. (1 ≤ rows_of group) × (old ≡ rows_of group + new))
Counts false old new current = (old ≡ 0) × (new ≡ 0)

-- a reader was opened behind the header of the bytes that it gave, whatever stands behind them
pub record IsOpened {R : Type 0} (known : R → Option (List ℕ)) (reader : R) (g : ReaderSpec R) : Type 0 where
  pub given : List ℕ
  pub left : (bytes : List ℕ) → known reader ≡ Some bytes → (rest : List ℕ) × (known g.source.reader ≡ Some rest) × (bytes ≡ given ++ rest)
  pub hashed : Holds256 g.source.hasher given
  pub header : (rest : List ℕ) → header_read (given ++ rest) ≡ Ok (g.header, rest)
  pub comes : (all rest : List ℕ) → coming_of g all rest ≡ coming_behind all g.header rest

-- the same; or there are bytes that the reader may have with whose front this is wrong first, unless memory was wanting or
-- the reader failed
abbrev pub Opens : {R : Type 0} → (R → Option (List ℕ)) → R → Result (ReaderSpec R) FileFault → Type 0
Opens known reader (Ok g) = IsOpened known reader g
Opens known reader (Err e) = e ≢ Memory → e ≢ Device → (bytes : List ℕ) × MayBeLeft (known reader) bytes × (header_read bytes ≡ Err e)

-- what a call does that goes on to the next row group, and says whether there is one
pub record Advances {R : Type 0} (known : R → Option (List ℕ)) (old new : ReaderSpec R) (r : Result Bool FileFault) : Type 0 where
  pub same : new.header ≡ old.header
  pub told : GoesOn known old new r
  pub stands : IfOk r (λ more. IsThere more new.current)
  pub counted : IfOk r (λ more. Counts more old.left new.left new.current)
  pub refused : IfErr r (λ e. refused_in new ≡ Some e)
  pub none : OnErr r (new.current ≡ None)
  pub again : (e : FileFault) → refused_in old ≡ Some e → (r ≡ Err e) × (new ≡ old)
  pub over : old.standing ≡ AtEnd → (r ≡ Ok false) × (new ≡ old)

-- whether a call that lends lent something
abbrev pub lends : {X : Type 0} → Result (Option X) FileFault → Result Bool FileFault
lends (Ok found) = Ok (is_some found)
lends (Err e) = Err e

-- the first of these, if there is one
abbrev pub IsFirst : List (List Block) → Option (List Block) → Type 0
IsFirst [] found = found ≡ None
IsFirst (group ∷ groups) found = found ≡ Some group

-- where it is known what a reader has left: these row groups, and then this end, are to come
abbrev pub IsComing : {R : Type 0} → (R → Option (List ℕ)) → ReaderSpec R → Coming → Type 0
IsComing known g c = (front rest : List ℕ) × Holds256 g.source.hasher front × (known g.source.reader ≡ Some rest) × (c ≡ coming_of g (front ++ rest) rest)
