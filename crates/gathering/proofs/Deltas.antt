-- Cells and what is new of them: their groups together, their faults, and how many groups are handed to tables.
use Rattle.std.specs.Prelude.{◌≡◌, ℕ, zero, suc, ◌+◌, ◌*◌, ◌<◌, ◌≤◌, true, false, List, [], ◌∷◌, ◌++◌, length, drop, replicate, slice_set, slice_index_or, Option, None}
use Rattle.std.specs.Cmp.Lexicographic.{pointwise}
use Rattle.std.specs.List.{AllByRecursion, list_all, list_any, enumerate_from}
use Rattle.std.proofs.Common.{refl, sym, ap, ◌∙◌, subst, arith, append_assoc, append-nil, length-append}
use Rattle.std.proofs.lemmas.List.Sums.{sum_by-append}
use Rattle.meaning.specs.declared.answer.RowFault.{RowFault}
use Rattle.meaning.specs.declared.answer.Group.{Group}
use Rattle.meaning.specs.declared.answer.Cell.TheVariants.{Nothing, One, Conflict}
use Rattle.meaning.specs.declared.plan.Plan.{Plan}
use Rattle.meaning.specs.Answer.{groups_of}
use Rattle.meaning.specs.Cut.{Cut, IsCut}
use Rattle.meaning.specs.Gather.{is_conflict, join_cells, same_body}
use Rattle.meaning.specs.Group.{merged_groups}
use Rattle.meaning.specs.Judge.{fault_cmp}
use Rattle.meaning.specs.Limits.{max_rows}
use Rattle.meaning.specs.Order.{lesser}
use Rattle.meaning.specs.Said.{Body, Cell}
use Rattle.meaning.proofs.Least.{lesser-assoc, lesser-comm, lesser_none}
use Rattle.meaning.proofs.LiveTable.{merged_groups-turned, merged_groups-again}
use Rattle.meaning.proofs.Orders.{fault_total, fault_exact}
use Rattle.meaning.proofs.Tests.{first_of, second_of, both}
use Rattle.aggregate_states.specs.State.{most_entries}
use Rattle.group_by.specs.Groups.{all_rows}
use Rattle.gathering.specs.Faults.{fault_in, least_fault}
use Rattle.gathering.specs.Fitted.{is_fitting}
use Rattle.gathering.specs.Gathering.{cell_at, join_states}
use Rattle.gathering.specs.Joining.{delta_of, all_deltas, conflict_unless}
use Rattle.gathering.specs.Merging.{all_groups, groups_in}
use Rattle.gathering.specs.Totals.{is_delta, behind, all_behind, most_merges}
use Rattle.gathering.proofs.Faults.{first_cell}
use Rattle.gathering.proofs.Merging.{cell_takes}

-- ---- groups merged in another order

module _ (plan : Plan) where
  abbrev whole : List Group → List Group
  whole = merged_groups plan

  -- what is the same merged is so behind others
  behind_same : (x gs hs : List Group) → whole gs ≡ whole hs → whole (x ++ gs) ≡ whole (x ++ hs)
  behind_same x gs hs same =
      merged_groups-turned plan x gs ∙ sym (merged_groups-again plan gs x) ∙ ap (λ (ks : List Group). whole (ks ++ x)) same
      ∙ merged_groups-again plan hs x ∙ merged_groups-turned plan hs x

  swapped : (x y z : List Group) → whole (x ++ (y ++ z)) ≡ whole (y ++ (x ++ z))
  swapped x y z =
      ap whole (sym (append_assoc x y z)) ∙ merged_groups-turned plan (x ++ y) z
      ∙ behind_same z (x ++ y) (y ++ x) (merged_groups-turned plan x y)
      ∙ merged_groups-turned plan z (y ++ x) ∙ ap whole (append_assoc y x z)

  -- ---- without a conflict

  -- the groups of the cells behind their deltas are those of the cells and of the deltas
  pub groups_behind : (own deltas : List Cell) → pointwise is_delta own deltas ≡ true → list_any is_conflict deltas ≡ false
      → whole (all_groups own ++ all_groups deltas) ≡ whole (all_groups (all_behind own deltas))
  groups_behind [] [] e none = refl
  groups_behind [] (d ∷ deltas) e none = absurd cc
  groups_behind (c ∷ own) [] e none = absurd cc
  groups_behind (c ∷ own) (Nothing ∷ deltas) e none =
      ap whole (append_assoc (groups_in c) (all_groups own) (all_groups deltas))
      ∙ behind_same (groups_in c) (all_groups own ++ all_groups deltas) (all_groups (all_behind own deltas)) (groups_behind own deltas (second_of (is_delta c Nothing) _ e) none)
  groups_behind (Nothing ∷ own) (One b ∷ deltas) e none =
      swapped (all_groups own) (groups_of b) (all_groups deltas)
      ∙ behind_same (groups_of b) (all_groups own ++ all_groups deltas) (all_groups (all_behind own deltas)) (groups_behind own deltas (second_of (is_delta Nothing (One b)) _ e) none)
  groups_behind (One a ∷ own) (One b ∷ deltas) e none = absurd cc
  groups_behind (Conflict ∷ own) (One b ∷ deltas) e none = absurd cc
  groups_behind (c ∷ own) (Conflict ∷ deltas) e none = absurd cc

abbrev pub rows_of : Group → ℕ
rows_of g = g.rows

pub rows_behind : (own deltas : List Cell) → pointwise is_delta own deltas ≡ true → list_any is_conflict deltas ≡ false
    → all_rows (all_groups own) + all_rows (all_groups deltas) ≡ all_rows (all_groups (all_behind own deltas))
rows_behind [] [] e none = refl
rows_behind [] (d ∷ deltas) e none = absurd cc
rows_behind (c ∷ own) [] e none = absurd cc
rows_behind (c ∷ own) (Nothing ∷ deltas) e none =
    let left = sum_by-append rows_of (groups_in c) (all_groups own) in
    let right = sum_by-append rows_of (groups_in c) (all_groups (all_behind own deltas)) in
    let later = rows_behind own deltas (second_of (is_delta c Nothing) _ e) none in
    omega (arith, left, right, later)
rows_behind (Nothing ∷ own) (One b ∷ deltas) e none =
    let left = sum_by-append rows_of (groups_of b) (all_groups deltas) in
    let right = sum_by-append rows_of (groups_of b) (all_groups (all_behind own deltas)) in
    let later = rows_behind own deltas (second_of (is_delta Nothing (One b)) _ e) none in
    omega (arith, left, right, later)
rows_behind (One a ∷ own) (One b ∷ deltas) e none = absurd cc
rows_behind (Conflict ∷ own) (One b ∷ deltas) e none = absurd cc
rows_behind (c ∷ own) (Conflict ∷ deltas) e none = absurd cc

pub many_behind : (own deltas : List Cell) → pointwise is_delta own deltas ≡ true → list_any is_conflict deltas ≡ false
    → length (all_groups own) + length (all_groups deltas) ≡ length (all_groups (all_behind own deltas))
many_behind [] [] e none = refl
many_behind [] (d ∷ deltas) e none = absurd cc
many_behind (c ∷ own) [] e none = absurd cc
many_behind (c ∷ own) (Nothing ∷ deltas) e none =
    let left = length-append (groups_in c) (all_groups own) in
    let right = length-append (groups_in c) (all_groups (all_behind own deltas)) in
    let later = many_behind own deltas (second_of (is_delta c Nothing) _ e) none in
    omega (arith, left, right, later)
many_behind (Nothing ∷ own) (One b ∷ deltas) e none =
    let left = length-append (groups_of b) (all_groups deltas) in
    let right = length-append (groups_of b) (all_groups (all_behind own deltas)) in
    let later = many_behind own deltas (second_of (is_delta Nothing (One b)) _ e) none in
    omega (arith, left, right, later)
many_behind (One a ∷ own) (One b ∷ deltas) e none = absurd cc
many_behind (Conflict ∷ own) (One b ∷ deltas) e none = absurd cc
many_behind (c ∷ own) (Conflict ∷ deltas) e none = absurd cc

module _ where
  abbrev min_of : Option RowFault → Option RowFault → Option RowFault
  min_of = lesser fault_cmp

  pub least_behind : (own deltas : List Cell) → pointwise is_delta own deltas ≡ true → list_any is_conflict deltas ≡ false
      → min_of (least_fault own) (least_fault deltas) ≡ least_fault (all_behind own deltas)
  least_behind [] [] e none = refl
  least_behind [] (d ∷ deltas) e none = absurd cc
  least_behind (c ∷ own) [] e none = absurd cc
  least_behind (c ∷ own) (Nothing ∷ deltas) e none =
      ap (λ (f : Option RowFault). min_of f (least_fault deltas)) (first_cell c own)
      ∙ lesser-assoc fault_total (fault_in c) (least_fault own) (least_fault deltas)
      ∙ ap (min_of (fault_in c)) (least_behind own deltas (second_of (is_delta c Nothing) _ e) none)
      ∙ sym (first_cell c (all_behind own deltas))
  least_behind (Nothing ∷ own) (One b ∷ deltas) e none =
      let f = fault_in (One b) in
      ap (min_of (least_fault own)) (first_cell (One b) deltas)
      ∙ sym (lesser-assoc fault_total (least_fault own) f (least_fault deltas))
      ∙ ap (λ (g : Option RowFault). min_of g (least_fault deltas)) (lesser-comm fault_total fault_exact (least_fault own) f)
      ∙ lesser-assoc fault_total f (least_fault own) (least_fault deltas)
      ∙ ap (min_of f) (least_behind own deltas (second_of (is_delta Nothing (One b)) _ e) none)
      ∙ sym (first_cell (One b) (all_behind own deltas))
  least_behind (One a ∷ own) (One b ∷ deltas) e none = absurd cc
  least_behind (Conflict ∷ own) (One b ∷ deltas) e none = absurd cc
  least_behind (c ∷ own) (Conflict ∷ deltas) e none = absurd cc

-- what holds of all groups behind the deltas holds of those of the deltas
parts : (P : Group → Type 0) (xs ys : List Group) → AllByRecursion P (xs ++ ys) → AllByRecursion P xs × AllByRecursion P ys
parts P [] ys all = (tt, all)
parts P (x ∷ xs) ys all = let later = parts P xs ys all.1 in ((all.0, later.0), later.1)

joined : (P : Group → Type 0) (xs ys : List Group) → AllByRecursion P xs → AllByRecursion P ys → AllByRecursion P (xs ++ ys)
joined P [] ys p q = q
joined P (x ∷ xs) ys p q = (p.0, joined P xs ys p.1 q)

pub all_of_deltas : (P : Group → Type 0) (own deltas : List Cell) → pointwise is_delta own deltas ≡ true → list_any is_conflict deltas ≡ false
    → AllByRecursion P (all_groups (all_behind own deltas)) → AllByRecursion P (all_groups deltas)
all_of_deltas P [] [] e none all = tt
all_of_deltas P [] (d ∷ deltas) e none all = absurd cc
all_of_deltas P (c ∷ own) [] e none all = absurd cc
all_of_deltas P (c ∷ own) (Nothing ∷ deltas) e none all =
    all_of_deltas P own deltas (second_of (is_delta c Nothing) _ e) none (parts P (groups_in c) (all_groups (all_behind own deltas)) all).1
all_of_deltas P (Nothing ∷ own) (One b ∷ deltas) e none all =
    let two = parts P (groups_of b) (all_groups (all_behind own deltas)) all in
    joined P (groups_of b) (all_groups deltas) two.0 (all_of_deltas P own deltas (second_of (is_delta Nothing (One b)) _ e) none two.1)
all_of_deltas P (One a ∷ own) (One b ∷ deltas) e none all = absurd cc
all_of_deltas P (Conflict ∷ own) (One b ∷ deltas) e none all = absurd cc
all_of_deltas P (c ∷ own) (Conflict ∷ deltas) e none all = absurd cc

-- ---- how many groups may be handed over

pub most_short : (cells : List Cell) → most_merges cells ≤ length cells * (max_rows + most_entries)
most_short [] = omega arith
most_short (Nothing ∷ cells) = let later = most_short cells in omega (arith, later)
most_short (One b ∷ cells) = let later = most_short cells in omega (arith, later)
most_short (Conflict ∷ cells) = let later = most_short cells in omega (arith, later)

pub most_kept : (own deltas : List Cell) → pointwise is_delta own deltas ≡ true → most_merges own ≤ most_merges (all_behind own deltas)
most_kept [] [] e = omega arith
most_kept [] (d ∷ deltas) e = absurd cc
most_kept (c ∷ own) [] e = absurd cc
most_kept (c ∷ own) (Nothing ∷ deltas) e = let later = most_kept own deltas (second_of (is_delta c Nothing) _ e) in omega (arith, later)
most_kept (Nothing ∷ own) (One b ∷ deltas) e = let later = most_kept own deltas (second_of (is_delta Nothing (One b)) _ e) in omega (arith, later)
most_kept (One a ∷ own) (One b ∷ deltas) e = absurd cc
most_kept (Conflict ∷ own) (One b ∷ deltas) e = absurd cc
most_kept (Nothing ∷ own) (Conflict ∷ deltas) e = let later = most_kept own deltas (second_of (is_delta Nothing Conflict) _ e) in omega (arith, later)
most_kept (One a ∷ own) (Conflict ∷ deltas) e = let later = most_kept own deltas (second_of (is_delta (One a) Conflict) _ e) in omega (arith, later)
most_kept (Conflict ∷ own) (Conflict ∷ deltas) e = absurd cc

pub most_at_conflict : (own deltas : List Cell) → pointwise is_delta own deltas ≡ true → list_any is_conflict deltas ≡ true
    → most_merges own + most_entries ≤ most_merges (all_behind own deltas)
most_at_conflict [] [] e some = absurd cc
most_at_conflict [] (d ∷ deltas) e some = absurd cc
most_at_conflict (c ∷ own) [] e some = absurd cc
most_at_conflict (c ∷ own) (Nothing ∷ deltas) e some = let later = most_at_conflict own deltas (second_of (is_delta c Nothing) _ e) some in omega (arith, later)
most_at_conflict (Nothing ∷ own) (One b ∷ deltas) e some = let later = most_at_conflict own deltas (second_of (is_delta Nothing (One b)) _ e) some in omega (arith, later)
most_at_conflict (One a ∷ own) (One b ∷ deltas) e some = absurd cc
most_at_conflict (Conflict ∷ own) (One b ∷ deltas) e some = absurd cc
most_at_conflict (Nothing ∷ own) (Conflict ∷ deltas) e some = let later = most_kept own deltas (second_of (is_delta Nothing Conflict) _ e) in omega (arith, later)
most_at_conflict (One a ∷ own) (Conflict ∷ deltas) e some = let later = most_kept own deltas (second_of (is_delta (One a) Conflict) _ e) in omega (arith, later)
most_at_conflict (Conflict ∷ own) (Conflict ∷ deltas) e some = absurd cc

module _ (plan : Plan) (cut : Cut) (is_cut : IsCut cut) where
  abbrev Fit : ℕ → List Cell → Type 0
  Fit n cells = list_all (λ p. is_fitting plan cut p.0 p.1) (enumerate_from n cells) ≡ true

  pub most_more : (n : ℕ) (own deltas : List Cell) → pointwise is_delta own deltas ≡ true → list_any is_conflict deltas ≡ false → Fit n (all_behind own deltas)
      → most_merges own + length (all_groups deltas) ≤ most_merges (all_behind own deltas)
  most_more n [] [] e none fit = omega arith
  most_more n [] (d ∷ deltas) e none fit = absurd cc
  most_more n (c ∷ own) [] e none fit = absurd cc
  most_more n (c ∷ own) (Nothing ∷ deltas) e none fit =
      let later = most_more (n + 1) own deltas (second_of (is_delta c Nothing) _ e) none (second_of (is_fitting plan cut n (behind c Nothing)) _ fit) in omega (arith, later)
  most_more n (Nothing ∷ own) (One b ∷ deltas) e none fit =
      let later = most_more (n + 1) own deltas (second_of (is_delta Nothing (One b)) _ e) none (second_of (is_fitting plan cut n (One b)) _ fit) in
      let here = (cell_takes plan cut is_cut n (One b) (first_of _ _ fit)).handed in
      let more = length-append (groups_of b) (all_groups deltas) in
      omega (arith, later, here, more)
  most_more n (One a ∷ own) (One b ∷ deltas) e none fit = absurd cc
  most_more n (Conflict ∷ own) (One b ∷ deltas) e none fit = absurd cc
  most_more n (c ∷ own) (Conflict ∷ deltas) e none fit = absurd cc

  -- those of each answer, once
  pub most_once : (n : ℕ) (cells : List Cell) → Fit n cells → length (all_groups cells) ≤ most_merges cells
  most_once n [] fit = omega arith
  most_once n (Nothing ∷ cells) fit = let later = most_once (n + 1) cells (second_of (is_fitting plan cut n Nothing) _ fit) in omega (arith, later)
  most_once n (One b ∷ cells) fit =
      let later = most_once (n + 1) cells (second_of (is_fitting plan cut n (One b)) _ fit) in
      let here = (cell_takes plan cut is_cut n (One b) (first_of _ _ fit)).handed in
      let more = length-append (groups_of b) (all_groups cells) in
      omega (arith, later, here, more)
  most_once n (Conflict ∷ cells) fit = let later = most_once (n + 1) cells (second_of (is_fitting plan cut n Conflict) _ fit) in omega (arith, later)

-- ---- cells behind their deltas are cells joined with them

join-behind : (c d : Cell) → is_delta c d ≡ true → join_cells c d ≡ behind c d
join-behind Nothing Nothing e = refl
join-behind (One a) Nothing e = refl
join-behind Conflict Nothing e = refl
join-behind Nothing (One b) e = refl
join-behind (One a) (One b) e = absurd cc
join-behind Conflict (One b) e = absurd cc
join-behind Nothing Conflict e = refl
join-behind (One a) Conflict e = refl
join-behind Conflict Conflict e = absurd cc

pub join_states-behind : (own deltas : List Cell) → pointwise is_delta own deltas ≡ true → join_states own deltas ≡ all_behind own deltas
join_states-behind [] [] e = refl
join_states-behind [] (d ∷ deltas) e = absurd cc
join_states-behind (c ∷ own) [] e = absurd cc
join_states-behind (c ∷ own) (d ∷ deltas) e = λ i. join-behind c d (first_of _ _ e) i ∷ join_states-behind own deltas (second_of (is_delta c d) _ e) i

pub as_many : (own deltas : List Cell) → pointwise is_delta own deltas ≡ true → length own ≡ length deltas
as_many [] [] e = refl
as_many [] (d ∷ deltas) e = absurd cc
as_many (c ∷ own) [] e = absurd cc
as_many (c ∷ own) (d ∷ deltas) e = ap suc (as_many own deltas (second_of (is_delta c d) _ e))

pub length-behind : (own deltas : List Cell) → length own ≡ length deltas → length (all_behind own deltas) ≡ length own
length-behind [] deltas e = refl
length-behind (c ∷ own) [] e = absurd (omega (arith, e))
length-behind (c ∷ own) (d ∷ deltas) e = ap suc (length-behind own deltas (omega (arith, e)))

-- ---- what is new of a cell is a delta

pub delta_is : (own other : Cell) → is_delta own (delta_of own other) ≡ true
delta_is Nothing Nothing = refl
delta_is Nothing (One b) = refl
delta_is Nothing Conflict = refl
delta_is (One a) Nothing = refl
delta_is (One a) (One b) = elim (same_body a b) as (λ t. is_delta (One a) (conflict_unless t) ≡ true) [ true ↦ refl | false ↦ refl ]
delta_is (One a) Conflict = refl
delta_is Conflict Nothing = refl
delta_is Conflict (One b) = refl
delta_is Conflict Conflict = refl

pub deltas_are : (own others : List Cell) → length own ≡ length others → pointwise is_delta own (all_deltas own others) ≡ true
deltas_are [] [] e = refl
deltas_are [] (d ∷ others) e = absurd (omega (arith, e))
deltas_are (c ∷ own) [] e = absurd (omega (arith, e))
deltas_are (c ∷ own) (d ∷ others) e = both _ _ (delta_is c d) (deltas_are own others (omega (arith, e)))

-- ---- one delta

abbrev pub alone : ℕ → ℕ → Cell → List Cell
alone n k d = slice_set (replicate n Nothing) k d

none_behind : (cells : List Cell) → all_behind cells (replicate (length cells) Nothing) ≡ cells
none_behind [] = refl
none_behind (c ∷ cells) = ap (λ (cs : List Cell). c ∷ cs) (none_behind cells)

none_deltas : (cells : List Cell) → pointwise is_delta cells (replicate (length cells) Nothing) ≡ true
none_deltas [] = refl
none_deltas (Nothing ∷ cells) = none_deltas cells
none_deltas (One b ∷ cells) = none_deltas cells
none_deltas (Conflict ∷ cells) = none_deltas cells

pub alone_behind : (cells : List Cell) (k : ℕ) (d : Cell) → k < length cells
    → all_behind cells (alone (length cells) k d) ≡ slice_set cells k (behind (cell_at cells k) d)
alone_behind [] k d below = absurd (omega arith)
alone_behind (c ∷ cells) zero d below = ap (λ (cs : List Cell). behind c d ∷ cs) (none_behind cells)
alone_behind (c ∷ cells) (suc k) d below = ap (λ (cs : List Cell). c ∷ cs) (alone_behind cells k d (omega (arith, below)))

pub alone_delta : (cells : List Cell) (k : ℕ) (d : Cell) → k < length cells → is_delta (cell_at cells k) d ≡ true
    → pointwise is_delta cells (alone (length cells) k d) ≡ true
alone_delta [] k d below e = absurd (omega arith)
alone_delta (c ∷ cells) zero d below e = both _ _ e (none_deltas cells)
alone_delta (c ∷ cells) (suc k) d below e = both (is_delta c Nothing) _ refl (alone_delta cells k d (omega (arith, below)) e)

pub none_groups : (n : ℕ) → all_groups (replicate n Nothing) ≡ []
none_groups zero = refl
none_groups (suc n) = none_groups n

pub alone_groups : (n k : ℕ) (d : Cell) → k < n → all_groups (alone n k d) ≡ groups_in d
alone_groups zero k d below = absurd (omega arith)
alone_groups (suc n) zero d below = ap (λ (gs : List Group). groups_in d ++ gs) (none_groups n) ∙ append-nil (groups_in d)
alone_groups (suc n) (suc k) d below = alone_groups n k d (omega (arith, below))

none_fault : (n : ℕ) → least_fault (replicate n Nothing) ≡ None
none_fault zero = refl
none_fault (suc n) = none_fault n

pub alone_fault : (n k : ℕ) (d : Cell) → k < n → least_fault (alone n k d) ≡ fault_in d
alone_fault zero k d below = absurd (omega arith)
alone_fault (suc n) zero d below =
    first_cell d (replicate n Nothing) ∙ ap (lesser fault_cmp (fault_in d)) (none_fault n) ∙ lesser_none fault_cmp (fault_in d)
alone_fault (suc n) (suc k) d below = alone_fault n k d (omega (arith, below))

none_conflict : (n : ℕ) → list_any is_conflict (replicate n Nothing) ≡ false
none_conflict zero = refl
none_conflict (suc n) = none_conflict n

pub alone_answer : (n k : ℕ) (b : Body) → k < n → list_any is_conflict (alone n k (One b)) ≡ false
alone_answer zero k b below = absurd (omega arith)
alone_answer (suc n) zero b below = none_conflict n
alone_answer (suc n) (suc k) b below = alone_answer n k b (omega (arith, below))

pub alone_conflict : (n k : ℕ) → k < n → list_any is_conflict (alone n k Conflict) ≡ true
alone_conflict zero k below = absurd (omega arith)
alone_conflict (suc n) zero below = refl
alone_conflict (suc n) (suc k) below = alone_conflict n k (omega (arith, below))

-- ---- cell after cell

pub behind_at : (cells deltas : List Cell) (k : ℕ) (a b : Cell) → k < length cells → length cells ≡ length deltas → a ≡ slice_index_or cells k a → b ≡ slice_index_or deltas k b
    → behind a b ≡ slice_index_or (all_behind cells deltas) k (behind a b)
behind_at [] deltas k a b below long e f = absurd (omega (arith, below))
behind_at (c ∷ cells) [] k a b below long e f = absurd (omega (arith, long))
behind_at (c ∷ cells) (d ∷ deltas) zero a b below long e f = λ i. behind (e i) (f i)
behind_at (c ∷ cells) (d ∷ deltas) (suc k) a b below long e f = behind_at cells deltas k a b (omega (arith, below)) (omega (arith, long)) e f

pub behind_is : (cells deltas : List Cell) (k : ℕ) (a b is : Cell) → k < length cells → length cells ≡ length deltas → a ≡ slice_index_or cells k a → b ≡ slice_index_or deltas k b
    → is ≡ behind a b → is ≡ slice_index_or (all_behind cells deltas) k is
behind_is cells deltas k a b is below long e f same =
    subst (λ (x : Cell). x ≡ slice_index_or (all_behind cells deltas) k x) (sym same) (behind_at cells deltas k a b below long e f)

pub below_behind : (cells deltas : List Cell) (k : ℕ) → k < length cells → length cells ≡ length deltas → k < length (all_behind cells deltas)
below_behind cells deltas k below long = let same = length-behind cells deltas long in omega (arith, same, below)

-- the least fault, from the last cell to the first
pub last_behind : (cells deltas : List Cell) → length cells ≡ length deltas → least_fault (drop (length cells) (all_behind cells deltas)) ≡ None
last_behind [] deltas long = refl
last_behind (c ∷ cells) [] long = absurd (omega (arith, long))
last_behind (c ∷ cells) (d ∷ deltas) long = last_behind cells deltas (omega (arith, long))
