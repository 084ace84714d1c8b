-- A reader's turns: what was to come, and what is to come behind it.
use Rattle.std.specs.Prelude.{◌≡◌, ◌≢◌, nat_lt, if◌then◌else◌, ℕ, suc, ◌+◌, ◌-◌, ◌≤◌, ◌<◌, Bool, true, false, List, [], ◌∷◌, ◌++◌, length, map, Option, Some, None, option_map, is_some, Ok, Err}
use Rattle.std.proofs.Common.{refl, sym, ap, subst, ◌∙◌, append_assoc, arith}
use Rattle.std.proofs.lemmas.Bool.{ltb-false}
use Rattle.meaning.specs.declared.catalog.Column.{Column}
use Rattle.meaning.specs.Limits.{row_group_rows}
use Rattle.blocks.specs.Block.{Block}
use Rattle.fragment_file.specs.declared.fault.FileFault.{FileFault}
use Rattle.fragment_file.specs.declared.fault.FileFault.TheVariants.{Memory, Device}
use Rattle.fragment_file.specs.declared.header.Header.{Header}
use Rattle.fragment_file.specs.declared.view.BlockLocation.{BlockLocation}
use Rattle.fragment_file.specs.Fragment.{AreBlocks, group_sizes}
use Rattle.fragment_file.specs.FragmentReading.{group_at}
use Rattle.fragment_file.specs.View.{IsGroupAt, block_in, rows_of}
use Rattle.fragment_file.proofs.Locations.{blocks_group}
use Rattle.fragment_file.proofs.Sizes.{first_size, sizes_step}
use Rattle.group_reader.specs.declared.standing.Standing.{Standing}
use Rattle.group_reader.specs.declared.standing.Standing.TheVariants.{Between, AtGroup, AtEnd, Refused}
use Rattle.group_reader.specs.Coming.{Coming, behind, coming_at, coming_behind, header_read, with_group}
use Rattle.group_reader.specs.Located.{AreLocated}
use Rattle.group_reader.specs.Reader.{EndCame, GoesOn, GroupCame, IsComing, IsFirst, IsOpen, IsOpened, IsThere, MayCome, ReaderSpec, coming_from, coming_of, only}
use Rattle.group_reader.specs.Source.{EndsBy, MayBeLeft, Refuses, Took}
use Rattle.group_reader.proofs.Telling.{before, some_left}

sizes_now : (left rows : ℕ) → 0 < left → rows ≡ first_size left → group_sizes left ≡ rows ∷ group_sizes (left - rows)
sizes_now left rows some is = rw is (sizes_step left some)

blocks_rows : (columns : List Column) (rows : ℕ) (blocks : List Block) → 1 ≤ length columns → AreBlocks columns rows blocks → rows_of blocks ≡ rows
blocks_rows [] rows blocks some are = absurd (omega (arith, some))
blocks_rows (c ∷ cs) rows [] some are = absurd are
blocks_rows (c ∷ cs) rows (b ∷ bs) some are = are.0.rows

-- the next row group has no more rows than are left
pub first_within : (left rows : ℕ) → rows ≡ first_size left → rows ≤ left
first_within left rows is =
    elim (nat_lt left row_group_rows) as (λ b. nat_lt left row_group_rows ≡ b → rows ≤ left) [
      | true ↦ λ e. (let all : rows ≡ left = is ∙ ap (λ (b : Bool). if b then left else row_group_rows) e in omega (arith, all))
      | false ↦ λ e. (let full : rows ≡ row_group_rows = is ∙ ap (λ (b : Bool). if b then left else row_group_rows) e in let many = ltb-false _ _ e in omega (arith, full, many))
    ] refl

first_some : (left rows : ℕ) → 0 < left → rows ≡ first_size left → 1 ≤ rows
first_some left rows more is =
    elim (nat_lt left row_group_rows) as (λ b. nat_lt left row_group_rows ≡ b → 1 ≤ rows) [
      | true ↦ λ e. (let all : rows ≡ left = is ∙ ap (λ (b : Bool). if b then left else row_group_rows) e in omega (arith, all, more))
      | false ↦ λ e. (let full : rows ≡ row_group_rows = is ∙ ap (λ (b : Bool). if b then left else row_group_rows) e in omega (arith, full))
    ] refl

-- a row group of that many rows, and those that are left behind it
pub counts_group : (columns : List Column) (left rows : ℕ) (bytes : List ℕ) (locations : List BlockLocation) → 1 ≤ length columns → 0 < left → rows ≡ first_size left → AreLocated columns rows bytes locations
    → (1 ≤ rows_of (map (block_in bytes) locations)) × (left ≡ rows_of (map (block_in bytes) locations) + (left - rows))
counts_group columns left rows bytes locations some more is are =
    let within = first_within left rows is in
    let one = first_some left rows more is in
    let count : rows_of (map (block_in bytes) locations) ≡ rows = blocks_rows columns rows (map (block_in bytes) locations) some are.blocks in
    (omega (arith, one, count), omega (arith, within, count))

abbrev pub after_group : ℕ → List Column → ℕ → ℕ → List ℕ → List ℕ → Coming
after_group came columns left rows all rest = coming_at (came + 1) columns (group_sizes (left - rows)) all rest

first_of : (came : ℕ) (columns : List Column) (left rows : ℕ) (all rest : List ℕ) (c : Coming) → 0 < left → rows ≡ first_size left → c ≡ coming_at came columns (group_sizes left) all rest
    → c ≡ behind (group_at came columns rows rest) (after_group came columns left rows all)
first_of came columns left rows all rest c some is coming =
    let next : suc came ≡ came + 1 = omega arith in
    coming ∙ ap (λ (sizes : List ℕ). coming_at came columns sizes all rest) (sizes_now left rows some is)
    ∙ ap (λ (n : ℕ). behind (group_at came columns rows rest) (λ after. coming_at n columns (group_sizes (left - rows)) all after)) next

group_fails : (came : ℕ) (columns : List Column) (left rows : ℕ) (all rest : List ℕ) (e : FileFault) → 0 < left → rows ≡ first_size left
    → group_at came columns rows rest ≡ Err e → coming_at came columns (group_sizes left) all rest ≡ only (Some e)
group_fails came columns left rows all rest e some is err =
    first_of came columns left rows all rest _ some is refl ∙ ap (λ r. behind r (after_group came columns left rows all)) err

group_comes : (came : ℕ) (columns : List Column) (left rows : ℕ) (all rest : List ℕ) (blocks : List Block) (after : List ℕ) → 0 < left → rows ≡ first_size left
    → group_at came columns rows rest ≡ Ok (blocks, after) → coming_at came columns (group_sizes left) all rest ≡ with_group blocks (after_group came columns left rows all after)
group_comes came columns left rows all rest blocks after some is ok =
    first_of came columns left rows all rest _ some is refl ∙ ap (λ r. behind r (after_group came columns left rows all)) ok

-- ---- a turn

-- where a reader may have more to give, it comes from its source
open_coming : (standing : Standing) (header : Header) (came left : ℕ) (all rest : List ℕ) → IsOpen standing → coming_from standing header came left all rest ≡ coming_at came header.columns (group_sizes left) all rest
open_coming Between header came left all rest may = refl
open_coming AtGroup header came left all rest may = refl
open_coming AtEnd header came left all rest may = absurd may
open_coming (Refused e) header came left all rest may = absurd may

module _ {R : Type 0} (known : R → Option (List ℕ)) (old g : ReaderSpec R) (same : old ≡ g) (may : IsOpen old.standing) where
  still : IsOpen g.standing
  still = subst (λ (r : ReaderSpec R). IsOpen r.standing) same may

  -- a row group came
  pub group_came : (new : ReaderSpec R) (rows : ℕ) (blocks : List Block) → 0 < g.left → rows ≡ first_size g.left → Took known g.source new.source (group_at g.came g.header.columns rows) blocks
      → ((all rest : List ℕ) → coming_of new all rest ≡ after_group g.came g.header.columns g.left rows all rest) → new.current ≡ Some blocks → GroupCame known old new
  group_came new rows blocks some is took comes stands = subst (λ (r : ReaderSpec R). GroupCame known r new) (sym same) record {
    group = blocks;
    given = took.0;
    yields = took.1;
    comes = λ all rest.
        open_coming g.standing g.header g.came g.left all (took.0 ++ rest) still
        ∙ group_comes g.came g.header.columns g.left rows all (took.0 ++ rest) blocks rest some is (took.2 rest)
        ∙ ap (with_group blocks) (sym (comes all rest));
    stands = stands;
  }

  -- none can be had
  pub group_failed : (rows : ℕ) (e : FileFault) → 0 < g.left → rows ≡ first_size g.left → Refuses known g.source (group_at g.came g.header.columns rows) e → e ≢ Memory → e ≢ Device → MayCome known old (only (Some e))
  group_failed rows e some is refused no_memory no_device = subst (λ (r : ReaderSpec R). MayCome known r (only (Some e))) (sym same) (λ front holds.
      let wrong = refused no_memory no_device in
      (wrong.0, wrong.1, sym (open_coming g.standing g.header g.came g.left (front ++ wrong.0) wrong.0 still ∙ group_fails g.came g.header.columns g.left rows (front ++ wrong.0) wrong.0 e some is wrong.2)))

  -- the end
  pub end_told : (end : Option FileFault) → g.left ≡ 0 → EndsBy known g.source end → MayCome known old (only end)
  end_told end none ends = subst (λ (r : ReaderSpec R). MayCome known r (only end)) (sym same) (λ front holds.
      let at = ends front holds in
      (at.0, at.1, sym (open_coming g.standing g.header g.came g.left (front ++ at.0) at.0 still ∙ ap (λ (n : ℕ). coming_at g.came g.header.columns (group_sizes n) (front ++ at.0) at.0) none ∙ ap only at.2)))

-- ---- what may be to come

module _ {R : Type 0} (known : R → Option (List ℕ)) where
  -- of a reader that may give these row groups behind one that came
  pub came_before : (old new : ReaderSpec R) (came : GroupCame known old new) (c : Coming) → MayCome known new c → MayCome known old (with_group came.group c)
  came_before old new came c coming = λ front holds.
      let next = coming (front ++ came.given) (came.yields.hashed front holds) in (
        came.given ++ next.0,
        before known old.source new.source came.given next.0 came.yields next.1,
        ap (with_group came.group) next.2 ∙ sym (came.comes ((front ++ came.given) ++ next.0) next.0)
            ∙ ap (λ (all : List ℕ). coming_of old all (came.given ++ next.0)) (append_assoc front came.given next.0),
      )

  pub still_ended : (old new : ReaderSpec R) → EndCame known old new → MayCome known new (only None)
  still_ended old new came = λ front holds.
      let some = some_left (known new.source.reader) in
      (some.0, some.1, sym (came.still (front ++ some.0) some.0))

  -- nothing more is to come behind the end
  pub stays_ended : (g : ReaderSpec R) → g.standing ≡ AtEnd → g.current ≡ None → EndCame known g g
  stays_ended g at none =
      let over : (all rest : List ℕ) → coming_of g all rest ≡ only None = λ all rest. ap (λ (s : Standing). coming_from s g.header g.came g.left all rest) at in
      let some = some_left (known g.source.reader) in
      record {
        was = λ front holds. (some.0, some.1, sym (over (front ++ some.0) some.0));
        still = over;
        none = none;
      }

  -- nor behind a refusal
  pub stays_refused : (g : ReaderSpec R) (e : FileFault) → g.standing ≡ Refused e → MayCome known g (only (Some e))
  stays_refused g e at = λ front holds.
      let some = some_left (known g.source.reader) in
      (some.0, some.1, sym (ap (λ (s : Standing). coming_from s g.header g.came g.left (front ++ some.0) some.0) at))

-- of a reader that was opened
pub opened_before : {R : Type 0} (known : R → Option (List ℕ)) (reader : R) (g : ReaderSpec R) (c : Coming) → IsOpened known reader g → MayCome known g c
    → (bytes rest : List ℕ) × MayBeLeft (known reader) bytes × (header_read bytes ≡ Ok (g.header, rest)) × (c ≡ coming_behind bytes g.header rest)
opened_before known reader g c opened coming =
    let next = coming opened.given opened.hashed in (
      opened.given ++ next.0,
      next.0,
      (λ bytes is.
          let left = opened.left bytes is in
          left.2 ∙ ap (λ (r : List ℕ). opened.given ++ r) (next.1 left.0 left.1)),
      opened.header next.0,
      next.2 ∙ opened.comes (opened.given ++ next.0) next.0,
    )

-- ---- the row group that stands

pub located_group : (columns : List Column) (rows : ℕ) (bytes : List ℕ) (locations : List BlockLocation) → AreLocated columns rows bytes locations → IsGroupAt bytes locations
located_group columns rows bytes locations are = record { within = are.within; group = blocks_group columns rows (map (block_in bytes) locations) are.blocks }

blocks_length : (columns : List Column) (rows : ℕ) (blocks : List Block) → AreBlocks columns rows blocks → length blocks ≡ length columns
blocks_length [] rows [] are = refl
blocks_length [] rows (b ∷ bs) are = absurd are
blocks_length (c ∷ cs) rows [] are = absurd are
blocks_length (c ∷ cs) rows (b ∷ bs) are = ap suc (blocks_length cs rows bs are.1)

pub located_count : (columns : List Column) (rows : ℕ) (bytes : List ℕ) (locations : List BlockLocation) → AreLocated columns rows bytes locations → length (map (block_in bytes) locations) ≡ length columns
located_count columns rows bytes locations are = blocks_length columns rows (map (block_in bytes) locations) are.blocks

pub located_rows : (columns : List Column) (rows : ℕ) (bytes : List ℕ) (locations : List BlockLocation) → 1 ≤ length columns → AreLocated columns rows bytes locations → rows_of (map (block_in bytes) locations) ≡ rows
located_rows columns rows bytes locations some are = blocks_rows columns rows (map (block_in bytes) locations) some are.blocks

pub located_blocks : (columns : List Column) (rows : ℕ) (bytes : List ℕ) (locations : List BlockLocation) → 1 ≤ length columns → AreLocated columns rows bytes locations
    → AreBlocks columns (rows_of (map (block_in bytes) locations)) (map (block_in bytes) locations)
located_blocks columns rows bytes locations some are =
    subst (λ (n : ℕ). AreBlocks columns n (map (block_in bytes) locations)) (sym (located_rows columns rows bytes locations some are)) are.blocks

-- ---- the row group that is lent

abbrev some_of : List Block → Option (List Block)
some_of group = Some group

abbrev none_of : Option (List Block)
none_of = None

-- one is lent just if one stands
pub lent_is : {X : Type 0} (f : X → List Block) (found : Option X) (current : Option (List Block)) (more : Bool) → option_map f found ≡ current → IsThere more current → more ≡ is_some found
lent_is f (Some x) current true is there = refl
lent_is f None current true is there = absurd (none_some there.0 (is ∙ there.1))
  where
    none_some : (group : List Block) → none_of ≡ some_of group → ⊥
    none_some group e = cc
lent_is f (Some x) current false is there = absurd (some_none (f x) (is ∙ there))
  where
    some_none : (group : List Block) → some_of group ≡ none_of → ⊥
    some_none group e = cc
lent_is f None current false is there = refl

-- the one that came is the first of those that were to come
pub came_first : {R : Type 0} (known : R → Option (List ℕ)) (old new : ReaderSpec R) (c : Coming) (more : Bool) → IsComing known old c → GoesOn known old new (Ok more) → IsFirst c.groups new.current
came_first known old new c true coming came =
    let (front, rest, holds, left, is) = coming in
    let next = came.yields.left rest left in
    let parts : c ≡ with_group came.group (coming_of new (front ++ rest) next.0) = is ∙ ap (λ (r : List ℕ). coming_of old (front ++ rest) r) next.2 ∙ came.comes (front ++ rest) next.0 in
    subst (λ (groups : List (List Block)). IsFirst groups new.current) (sym (ap (λ (x : Coming). x.groups) parts)) came.stands
came_first known old new c false coming came =
    let (front, rest, holds, left, is) = coming in
    let end = came.was front holds in
    let parts : c ≡ only None = is ∙ ap (λ (r : List ℕ). coming_of old (front ++ r) r) (end.1 rest left) ∙ sym end.2 in
    subst (λ (groups : List (List Block)). IsFirst groups new.current) (sym (ap (λ (x : Coming). x.groups) parts)) came.none
