-- Totals that take what is new of cells are those of the cells behind it.
use Rattle.std.specs.Prelude.{◌≡◌, ℕ, ◌+◌, ◌*◌, ◌<◌, ◌≤◌, true, false, cond, List, [], ◌++◌, length, take, get_or, slice_set, Option, None, All}
use Rattle.std.specs.Cmp.Lexicographic.{pointwise}
use Rattle.std.specs.List.{AllByRecursion, list_any}
use Rattle.std.proofs.Common.{refl, sym, ap, ◌∙◌, subst, arith, append-nil, append_assoc, length-append}
use Rattle.std.proofs.lemmas.List.Elements.{All-from_recursion, recursion_from_All}
use Rattle.std.proofs.lemmas.List.Sums.{sum_by-append}
use Rattle.meaning.proofs.LiveTable.{merged_groups-again}
use Rattle.meaning.specs.declared.answer.RowFault.{RowFault}
use Rattle.meaning.specs.declared.answer.Group.{Group}
use Rattle.meaning.specs.declared.answer.Cell.TheVariants.{Nothing, One, Conflict}
use Rattle.meaning.specs.declared.plan.Plan.{Plan}
use Rattle.meaning.specs.Answer.{groups_of}
use Rattle.meaning.specs.Cut.{IsCut}
use Rattle.meaning.specs.Gather.{is_conflict}
use Rattle.meaning.specs.Group.{merged_groups}
use Rattle.meaning.specs.Judge.{fault_cmp}
use Rattle.meaning.specs.Limits.{max_rows}
use Rattle.meaning.specs.Order.{lesser}
use Rattle.meaning.specs.Said.{Body, Cell}
use Rattle.meaning.specs.SoundPlan.{IsSoundPlan}
use Rattle.aggregate_states.specs.State.{most_entries}
use Rattle.group_by.specs.Groups.{all_rows, fresh, together, with_groups}
use Rattle.group_by.specs.Rows.{IsGroupOf}
use Rattle.group_by.specs.Shape.{Shape, GroupsSpec, shape_of}
use Rattle.group_by.proofs.Shapes.{says}
use Rattle.partial_codec.specs.Job.{JobSpec}
use Rattle.gathering.specs.declared.totals.Totals.{Totals}
use Rattle.gathering.specs.Faults.{fault_in, least_fault}
use Rattle.gathering.specs.Fitted.{AreFitting, is_fitting}
use Rattle.gathering.specs.Gathering.{IsHeld, cell_at, join_states}
use Rattle.gathering.specs.Merging.{AreMergeable, all_groups, groups_in, table_with}
use Rattle.gathering.specs.Totals.{AreTotalsOf, AreTotalsWith, CanTake, IsTableWith, all_behind, behind, handed_at_join, is_delta, merges_of, most_merges}
use Rattle.gathering.proofs.Deltas.{rows_of, groups_behind, rows_behind, many_behind, least_behind, all_of_deltas, most_short, most_at_conflict, most_more, most_once, join_states-behind, length-behind, as_many, alone, alone_behind, alone_delta, alone_groups, alone_fault, alone_answer, alone_conflict}
use Rattle.gathering.proofs.Fitting.{AreFitting-set}
use Rattle.gathering.proofs.Merging.{cells_mergeable, cells_take, front_and_back, groups_more, middle, table_holds}

pub turned : (P : Plan → List Cell → List Cell → Type 0) (p q : Plan) (a b c d : List Cell) → p ≡ q → a ≡ b → c ≡ d → P p a c → P q b d
turned P p q a b c d e f g h =
    subst (λ (x : Plan). P x b d) e (subst (λ (x : List Cell). P p x d) f (subst (λ (x : List Cell). P p a x) g h))

-- ---- a table

-- a table with no groups more
pub same_table : (t : GroupsSpec) → IsTableWith t [] t
same_table t = record {
  shape = refl;
  groups = λ plan before shape e. e ∙ ap (merged_groups plan) (sym (append-nil before));
  rows = omega arith;
  handed = omega arith;
}

-- the fresh table is of no groups
pub fresh_groups : (plan : Plan) → (fresh (shape_of plan)).groups ≡ merged_groups plan []
fresh_groups plan = (says plan).groups []

-- a table of some groups that takes more
pub table_and : (t now after : GroupsSpec) (before gs : List Group) → IsTableWith t before now → after ≡ with_groups now gs → IsTableWith t (before ++ gs) after
table_and t now after before gs is more = record {
  shape = ap (λ (u : GroupsSpec). u.shape) more ∙ is.shape;
  groups = λ plan made shape e.
      ap (λ (u : GroupsSpec). u.groups) more
      ∙ ap (λ (s : Shape). together s (now.groups ++ gs)) (is.shape ∙ shape)
      ∙ (says plan).groups (now.groups ++ gs)
      ∙ ap (λ (hs : List Group). merged_groups plan (hs ++ gs)) (is.groups plan made shape e)
      ∙ merged_groups-again plan (made ++ before) gs
      ∙ ap (merged_groups plan) (append_assoc made before gs);
  rows =
      let taken = ap (λ (u : GroupsSpec). u.rows) more in
      let held = is.rows in
      let both = sum_by-append rows_of before gs in
      omega (arith, taken, held, both);
  handed =
      let taken = ap (λ (u : GroupsSpec). u.handed) more in
      let held = is.handed in
      let both = length-append before gs in
      omega (arith, taken, held, both);
}

pub table_more : (t after : GroupsSpec) (gs : List Group) → after ≡ with_groups t gs → IsTableWith t gs after
table_more t after gs more = table_and t t after [] gs (same_table t) more

-- the groups of the next cell may be taken
pub next_taken : (t now : GroupsSpec) (cells : List Cell) (i : ℕ) (cell : Cell) (gs : List Group) → i < length cells → CanTake t (all_groups cells)
    → IsTableWith t (all_groups (take i cells)) now → cell ≡ get_or cells i cell → gs ≡ groups_in cell → CanTake now gs
next_taken t now cells i cell gs below all is item groups =
    let parts = front_and_back cells i cell below in
    let front = all_groups (take i cells) in
    let here = groups_in (get_or cells i cell) in
    let rows = ap all_rows parts.1 ∙ sum_by-append rows_of front (here ++ parts.0) ∙ ap (λ n. all_rows front + n) (sum_by-append rows_of here parts.0) in
    let many = ap length parts.1 ∙ length-append front (here ++ parts.0) ∙ ap (λ n. length front + n) (length-append here parts.0) in
    let fit = All-from_recursion (IsGroupOf t.shape) here (middle (IsGroupOf t.shape) front here parts.0
    (subst (AllByRecursion (IsGroupOf t.shape)) parts.1 (recursion_from_All (IsGroupOf t.shape) (all_groups cells) all.fit))) in
    let few = all.few in
    let handed = all.handed in
    let taken = is.rows in
    let given = is.handed in
    subst (CanTake now) (sym (groups ∙ ap groups_in item)) (record {
      fit = subst (λ (s : Shape). All (IsGroupOf s) here) (sym is.shape) fit;
      few = omega (arith, rows, few, taken);
      handed = omega (arith, many, handed, given);
    })

-- the table with those of the next cell
pub table_next : (t now after : GroupsSpec) (cells : List Cell) (i : ℕ) (cell : Cell) → i < length cells → IsTableWith t (all_groups (take i cells)) now
    → cell ≡ get_or cells i cell → after ≡ with_groups now (groups_in cell) → IsTableWith t (all_groups (take (i + 1) cells)) after
table_next t now after cells i cell below is item more =
    subst (λ (gs : List Group). IsTableWith t gs after)
    (sym (groups_more cells i cell below ∙ ap (λ (c : Cell). all_groups (take i cells) ++ groups_in c) (sym item)))
    (table_and t now after (all_groups (take i cells)) (groups_in cell) is more)

-- ---- totals

module _ (plan : Plan) (cells deltas : List Cell) (e : pointwise is_delta cells deltas ≡ true) (none : list_any is_conflict deltas ≡ false) where
  -- the totals with what is new
  pub live_more : (old new : Totals) → AreTotalsOf plan cells old → AreTotalsWith old (all_groups deltas) (least_fault deltas) new → AreTotalsOf plan (all_behind cells deltas) new
  live_more old new are more = record {
    shape = more.table.shape ∙ are.shape;
    groups = more.table.groups plan (all_groups cells) are.shape are.groups ∙ groups_behind plan cells deltas e none;
    rows = more.table.rows ∙ ap (λ n. n + all_rows (all_groups deltas)) are.rows ∙ rows_behind cells deltas e none;
    least = more.least ∙ ap (λ (f : Option RowFault). lesser fault_cmp f (least_fault deltas)) are.least ∙ least_behind cells deltas e none;
  }

  -- the table takes what is new
  pub takes_more : (old : Totals) → AreTotalsOf plan cells old → AreMergeable plan (all_groups (all_behind cells deltas))
      → merges_of old + length (all_groups (all_behind cells deltas)) < 9223372036854775808 → CanTake old.table (all_groups deltas)
  takes_more old are all handed =
      let rows = rows_behind cells deltas e none in
      let many = many_behind cells deltas e none in
      record {
        fit = subst (λ (s : Shape). All (IsGroupOf s) (all_groups deltas)) (sym are.shape)
            (All-from_recursion (IsGroupOf (shape_of plan)) (all_groups deltas)
            (all_of_deltas (IsGroupOf (shape_of plan)) cells deltas e none (recursion_from_All (IsGroupOf (shape_of plan)) (all_groups (all_behind cells deltas)) all.fit)));
        few = let total = all.few in let held = are.rows in omega (arith, rows, total, held);
        handed = omega (arith, many, handed);
      }

pub merges_more : (old new : Totals) (gs : List Group) (fault : Option RowFault) → AreTotalsWith old gs fault new → merges_of new ≡ merges_of old + length gs
merges_more old new gs fault more = let a = more.earlier in let b = more.table.handed in omega (arith, a, b)

-- ---- totals made anew

pub made : (plan : Plan) (cells : List Cell) (t : Totals) → t.table ≡ table_with plan (all_groups cells) → t.least ≡ least_fault cells → AreTotalsOf plan cells t
made plan cells t table least = record {
  shape = ap (λ (u : GroupsSpec). u.shape) table;
  groups = table_holds plan t.table cells (says plan) table;
  rows = let rows = ap (λ (u : GroupsSpec). u.rows) table in omega (arith, rows);
  least = least;
}

pub made_merges : (plan : Plan) (gs : List Group) (t : Totals) → t.table ≡ table_with plan gs → merges_of t ≡ t.earlier + length gs
made_merges plan gs t table = let handed = ap (λ (u : GroupsSpec). u.handed) table in omega (arith, handed)

-- a fresh table takes the groups
pub fresh_takes : (plan : Plan) (t : GroupsSpec) (gs : List Group) → t ≡ fresh (shape_of plan) → AreMergeable plan gs → CanTake t gs
fresh_takes plan t gs is all =
    let few = all.few in
    let handed = all.handed in
    subst (λ (u : GroupsSpec). CanTake u gs) (sym is) (record { fit = all.fit; few = omega (arith, few); handed = omega (arith, handed) })

pub fresh_totals : (plan : Plan) (cells : List Cell) (first new : Totals) → first.table ≡ fresh (shape_of plan) → first.least ≡ None
    → AreTotalsWith first (all_groups cells) (least_fault cells) new → AreTotalsOf plan cells new
fresh_totals plan cells first new table least more = record {
  shape = more.table.shape ∙ ap (λ (u : GroupsSpec). u.shape) table;
  groups = more.table.groups plan [] (ap (λ (u : GroupsSpec). u.shape) table) (ap (λ (u : GroupsSpec). u.groups) table ∙ fresh_groups plan);
  rows =
      let taken = more.table.rows in
      let none = ap (λ (u : GroupsSpec). u.rows) table in
      omega (arith, taken, none);
  least = more.least ∙ ap (λ (f : Option RowFault). lesser fault_cmp f (least_fault cells)) least;
}

pub fresh_merges : (plan : Plan) (gs : List Group) (fault : Option RowFault) (first new : Totals) → first.table ≡ fresh (shape_of plan) → first.earlier ≡ 0
    → AreTotalsWith first gs fault new → merges_of new ≡ length gs
fresh_merges plan gs fault first new table earlier more =
    let given = more.table.handed in
    let none = ap (λ (u : GroupsSpec). u.handed) table in
    let kept = more.earlier in
    omega (arith, given, none, kept, earlier)

-- ---- how many groups are handed over at a join

pub handed_none : (cells deltas : List Cell) → list_any is_conflict deltas ≡ false → handed_at_join cells deltas ≡ length (all_groups deltas)
handed_none cells deltas e = ap (λ b. cond b (length (all_groups (all_behind cells deltas))) (length (all_groups deltas))) e

pub handed_all : (cells deltas : List Cell) → list_any is_conflict deltas ≡ true → handed_at_join cells deltas ≡ length (all_groups (all_behind cells deltas))
handed_all cells deltas e = ap (λ b. cond b (length (all_groups (all_behind cells deltas))) (length (all_groups deltas))) e

-- ---- what is held

-- how many groups were handed over so far
pub merges_few : (job : JobSpec) (cells : List Cell) (t : Totals) → IsCut job.cut → IsHeld job cells t → merges_of t ≤ 17596481011712
merges_few job cells t is_cut held =
    let few : length cells ≤ 4096 = omega (arith, held.gather.each, is_cut.few) in
    let short = most_short cells in
    let within = held.merges in
    omega (arith, few, short, within)

-- what is held of cells whose totals are made of them
pub held_first : (job : JobSpec) (cells : List Cell) (t : Totals) → IsCut job.cut → IsSoundPlan job.plan → length cells ≡ length job.cut → AreFitting job.plan job.cut cells
    → AreTotalsOf job.plan cells t → merges_of t ≡ length (all_groups cells) → IsHeld job cells t
held_first job cells t is_cut sound each fitting totals merges = record {
  gather = record { sound = sound; each = each; fitting = fitting };
  totals = totals;
  merges = let most = most_once job.plan job.cut is_cut 0 cells fitting.each in omega (arith, most, merges);
}

module _ (job : JobSpec) (cells deltas : List Cell) (is_cut : IsCut job.cut) (e : pointwise is_delta cells deltas ≡ true)
    (fitting : AreFitting job.plan job.cut (join_states cells deltas)) where
  each : length cells ≡ length job.cut → length (join_states cells deltas) ≡ length job.cut
  each held = ap (λ (cs : List Cell). length cs) (join_states-behind cells deltas e) ∙ length-behind cells deltas (as_many cells deltas e) ∙ held

  fit_behind : AreFitting job.plan job.cut (all_behind cells deltas)
  fit_behind = subst (AreFitting job.plan job.cut) (join_states-behind cells deltas e) fitting

  pub mergeable_behind : length cells ≡ length job.cut → AreMergeable job.plan (all_groups (all_behind cells deltas))
  mergeable_behind held =
      cells_mergeable job.plan job.cut (all_behind cells deltas) is_cut (length-behind cells deltas (as_many cells deltas e) ∙ held) fit_behind

  many : length cells ≡ length job.cut → length (all_groups (all_behind cells deltas)) ≤ most_entries
  many held =
      let all = cells_take job.plan job.cut is_cut 0 (all_behind cells deltas) fit_behind.each in
      let few : length (all_behind cells deltas) ≤ 4096 = omega (arith, length-behind cells deltas (as_many cells deltas e), held, is_cut.few) in
      let most : length (all_behind cells deltas) * max_rows ≤ 4294967296 = omega (arith, few) in
      omega (arith, all.handed, most)

  pub handed_behind : (t : Totals) → IsHeld job cells t → merges_of t + length (all_groups (all_behind cells deltas)) < 9223372036854775808
  handed_behind t held =
      let before = merges_few job cells t is_cut held in
      let more = many held.gather.each in
      omega (arith, before, more)

  most_at_join : length cells ≡ length job.cut → most_merges cells + handed_at_join cells deltas ≤ most_merges (all_behind cells deltas)
  most_at_join held = elim (list_any is_conflict deltas) as (λ b. list_any is_conflict deltas ≡ b → most_merges cells + handed_at_join cells deltas ≤ most_merges (all_behind cells deltas)) [
    | true ↦ λ some.
        let is = handed_all cells deltas some in
        let most = most_at_conflict cells deltas e some in
        let more = many held in
        omega (arith, is, most, more)
    | false ↦ λ none.
        let is = handed_none cells deltas none in
        let most = most_more job.plan job.cut is_cut 0 cells deltas e none fit_behind.each in
        omega (arith, is, most)
  ] refl

  -- what is held behind the deltas
  pub held_behind : (old new : Totals) → IsHeld job cells old → AreTotalsOf job.plan (all_behind cells deltas) new
      → merges_of new ≡ merges_of old + handed_at_join cells deltas → IsHeld job (join_states cells deltas) new
  held_behind old new held are counted = record {
    gather = record { sound = held.gather.sound; each = each held.gather.each; fitting = fitting };
    totals = subst (λ (cs : List Cell). AreTotalsOf job.plan cs new) (sym (join_states-behind cells deltas e)) are;
    merges =
        let most = most_at_join held.gather.each in
        let before = held.merges in
        subst (λ (cs : List Cell). merges_of new ≤ most_merges cs) (sym (join_states-behind cells deltas e)) (omega (arith, counted, most, before));
  }

-- ---- one cell

module _ (job : JobSpec) (cells : List Cell) (k : ℕ) (d : Cell) (below : k < length cells) (e : is_delta (cell_at cells k) d ≡ true) where
  abbrev only : List Cell
  only = alone (length cells) k d

  pub only_deltas : pointwise is_delta cells only ≡ true
  only_deltas = alone_delta cells k d below e

  pub only_joined : join_states cells only ≡ slice_set cells k (behind (cell_at cells k) d)
  only_joined = join_states-behind cells only only_deltas ∙ alone_behind cells k d below

  pub only_fits : is_fitting job.plan job.cut k (behind (cell_at cells k) d) ≡ true → AreFitting job.plan job.cut cells → AreFitting job.plan job.cut (join_states cells only)
  only_fits here before = subst (AreFitting job.plan job.cut) (sym only_joined) (AreFitting-set job.plan job.cut cells k (behind (cell_at cells k) d) here before)

-- where it becomes a conflict, the groups of those that are kept are handed over
pub only_handed : (job : JobSpec) (cells : List Cell) (k : ℕ) → k < length cells → handed_at_join cells (alone (length cells) k Conflict) ≡ length (all_groups (slice_set cells k Conflict))
only_handed job cells k below =
    handed_all cells (alone (length cells) k Conflict) (alone_conflict (length cells) k below)
    ∙ ap (λ (cs : List Cell). length (all_groups cs)) (alone_behind cells k Conflict below)

module _ (job : JobSpec) (cells : List Cell) (k : ℕ) (body : Body) (is_cut : IsCut job.cut) (below : k < length cells) (none : cell_at cells k ≡ Nothing)
    (fits : is_fitting job.plan job.cut k (One body) ≡ true) where
  is_new : is_delta (cell_at cells k) (One body) ≡ true
  is_new = ap (λ (c : Cell). is_delta c (One body)) none

  abbrev news : List Cell
  news = alone (length cells) k (One body)

  fitting : AreFitting job.plan job.cut cells → AreFitting job.plan job.cut (join_states cells news)
  fitting before = only_fits job cells k (One body) below is_new fits before

  -- the table takes the groups of an answer that is new
  pub takes_body : (t : Totals) → IsHeld job cells t → CanTake t.table (groups_of body)
  takes_body t held =
      let all = fitting held.gather.fitting in
      let e = only_deltas job cells k (One body) below is_new in
      subst (CanTake t.table) (alone_groups (length cells) k (One body) below)
      (takes_more job.plan cells news e (alone_answer (length cells) k body below) t held.totals
      (mergeable_behind job cells news is_cut e all held.gather.each) (handed_behind job cells news is_cut e all t held))

  -- and what is held then
  pub held_new : (old new : Totals) → IsHeld job cells old → AreTotalsWith old (groups_of body) (fault_in (One body)) new → IsHeld job (slice_set cells k (One body)) new
  held_new old new held more =
      let e = only_deltas job cells k (One body) below is_new in
      let quiet = alone_answer (length cells) k body below in
      let groups = alone_groups (length cells) k (One body) below in
      let fault = alone_fault (length cells) k (One body) below in
      let with_news : AreTotalsWith old (all_groups news) (least_fault news) new =
      subst (λ (gs : List Group). AreTotalsWith old gs (least_fault news) new) (sym groups)
      (subst (λ (f : Option RowFault). AreTotalsWith old (groups_of body) f new) (sym fault) more) in
      subst (λ (cs : List Cell). IsHeld job cs new) (only_joined job cells k (One body) below is_new)
      (held_behind job cells news is_cut e (fitting held.gather.fitting) old new held (live_more job.plan cells news e quiet old new held.totals with_news)
      (merges_more old new (all_groups news) (least_fault news) with_news ∙ ap (λ n. merges_of old + n) (sym (handed_none cells news quiet))))
