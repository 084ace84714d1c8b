-- Groups in order, those of one key as one.
use Rattle.std.specs.Prelude.{◌≡◌, ℕ, zero, suc, ◌+◌, ◌<◌, ◌≤◌, Bool, true, false, cond, not, ◌&&◌, ◌||◌, List, [], ◌∷◌, ◌++◌, length, map, filter, reverse, take, drop, get_or}
use Rattle.std.specs.List.Sorted.{IsSortedBy, IsStableBy, ties}
use Rattle.std.specs.Ordering.{eq_by_cmp, is_eq, is_lt, ordering_reverse}
use Rattle.std.specs.declared.cmp.Ordering.{Ordering}
use Rattle.std.specs.declared.cmp.Ordering.TheVariants.{Less, Equal, Greater}
use Rattle.std.proofs.Common.{refl, sym, ap, subst, ◌∙◌, arith, append_assoc, append-nil, length-drop}
use Rattle.std.proofs.lemmas.List.{get_or-drop, take_more, take_all, drop_at, drop_all, reverse-append}
use Rattle.std.proofs.lemmas.List.Sums.{sum_by-cons, sum_by-take-drop}
use Rattle.meaning.specs.declared.answer.Statistics.{Statistics}
use Rattle.meaning.specs.declared.answer.Group.{Group}
use Rattle.meaning.specs.Order.{Row, row_cmp, is_ascending}
use Rattle.meaning.specs.Aggregate.{no_statistics, merge}
use Rattle.meaning.specs.Group.{beside, merge_groups}
use Rattle.meaning.proofs.Orders.{row_total}
use Rattle.meaning.proofs.Tests.{both}
use Rattle.aggregate_states.specs.State.{most_entries}
use Rattle.group_by.specs.Combined.{zipped, put_before, combined, Rises, SameBeside, IsFit, AreFit, MergesWithFirst}
use Rattle.group_by.specs.Groups.{all_rows, together}
use Rattle.group_by.specs.Shape.{Shape}
use Rattle.group_keys.proofs.KeyRows.{one_row}
use Rattle.group_by.proofs.Growing.{Grows}
use Rattle.group_by.proofs.Together.{before, behind, merge_two, has, zipped-length}

-- ---- states

pub zipped_more : (ss ts : List Statistics) (k : ℕ) (d e : Statistics) (now new : List Statistics) (m : Statistics) → length ss ≡ length ts → k < length ss → m ≡ merge (get_or ss k d) (get_or ts k e)
    → now ≡ take k (zipped ss ts) → new ≡ now ++ m ∷ [] → new ≡ take (k + 1) (zipped ss ts)
zipped_more ss ts k d e now new m long here is so_far pushed =
    let longs = zipped-length ss ts (length ss) refl (sym long) in
    let at_k : m ≡ get_or (zipped ss ts) k d = is ∙ sym (zipped-get ss ts k d e d here (subst (λ (n : ℕ). k < n) long here)) in
    pushed ∙ (λ i. so_far i ++ at_k i ∷ []) ∙ sym (take_more (zipped ss ts) k d (subst (λ (n : ℕ). k < n) (sym longs) here))
  where
    zipped-get : (ss ts : List Statistics) (c : ℕ) (d e f : Statistics) → c < length ss → c < length ts → get_or (zipped ss ts) c f ≡ merge (get_or ss c d) (get_or ts c e)
    zipped-get [] ts c d e f l m = absurd (omega (arith, l))
    zipped-get (s ∷ ss) [] c d e f l m = absurd (omega (arith, m))
    zipped-get (s ∷ ss) (t ∷ ts) zero d e f l m = refl
    zipped-get (s ∷ ss) (t ∷ ts) (suc c) d e f l m = zipped-get ss ts c d e f (omega (arith, l)) (omega (arith, m))

pub zipped_all : (ss ts now : List Statistics) (k : ℕ) → length ss ≡ length ts → length ss ≤ k → now ≡ take k (zipped ss ts) → now ≡ zipped ss ts
zipped_all ss ts now k long past so_far =
    let longs = zipped-length ss ts (length ss) refl (sym long) in
    so_far ∙ take_all k (zipped ss ts) (subst (λ (n : ℕ). n ≤ k) (sym longs) past)

zipped_count : (ss ts : List Statistics) (c : ℕ) → (get_or (zipped ss ts) c no_statistics).count ≤ (get_or ss c no_statistics).count + (get_or ts c no_statistics).count
zipped_count [] ts c = omega arith
zipped_count (s ∷ ss) [] c = omega arith
zipped_count (s ∷ ss) (t ∷ ts) zero = omega arith
zipped_count (s ∷ ss) (t ∷ ts) (suc c) = zipped_count ss ts c

-- ---- lists that lose their last element

module _ {X : Type 0} where
  -- what is popped comes before what was
  pub popped : (all now new : List X) (x : X) → now ++ drop (length now) all ≡ all → now ≡ new ++ x ∷ [] → (new ++ drop (length new) all ≡ all) × (drop (length new) all ≡ x ∷ drop (length now) all)
  popped all now new x whole is =
      let rest = drop (length now) all in
      let all_is : all ≡ new ++ (x ∷ rest) = sym whole ∙ ap (λ (ys : List X). ys ++ rest) is ∙ append_assoc new (x ∷ []) rest in
      let left : drop (length new) all ≡ x ∷ rest = ap (drop (length new)) all_is ∙ drop_at new (x ∷ rest) (length new) refl in
      (ap (λ (ys : List X). new ++ ys) left ∙ sym all_is, left)

  pub none_popped : (all : List X) → all ++ drop (length all) all ≡ all
  none_popped all = ap (λ (ys : List X). all ++ ys) (drop_all (length all) all (omega arith)) ∙ append-nil all

  pub reverse_push : (xs : List X) (x : X) → reverse (xs ++ x ∷ []) ≡ x ∷ reverse xs
  reverse_push xs x = reverse-append xs (x ∷ [])

  pub reverse_cons : (x : X) (xs : List X) → reverse (x ∷ xs) ≡ reverse xs ++ x ∷ []
  reverse_cons x xs = reverse-append (x ∷ []) xs

-- ---- order

pub rises_from : (gs : List Group) → IsSortedBy (λ (x y : Group). is_lt (row_cmp x.key y.key)) gs → Rises (map (λ (g : Group). g.key) gs)
rises_from [] up = tt
rises_from (g ∷ []) up = tt
rises_from (g ∷ h ∷ gs) up =
    let later : (k : ℕ) → suc k + 1 ≡ suc (k + 1) = λ k. omega arith in (
      up 0 g (omega arith) (omega arith),
      rises_from (h ∷ gs) (λ k d low high. ap (λ n. is_lt (row_cmp (get_or (g ∷ h ∷ gs) n d).key (get_or (h ∷ gs) k d).key)) (sym (later k)) ∙ up (suc k) d (omega arith) (omega (arith, high))),
    )

pub tie : (r : Ordering) → (not (is_lt r) && not (is_lt (ordering_reverse r))) ≡ is_eq r
tie Less = refl
tie Equal = refl
tie Greater = refl

abbrev with_key : Row → Group
with_key k = record { key = k; rows = 0; states = [] }

tied : (k : Row) (g : Group) → ties (λ (x y : Group). is_lt (row_cmp x.key y.key)) (with_key k) g ≡ eq_by_cmp row_cmp k g.key
tied k g = ap (λ r. not (is_lt (row_cmp k g.key)) && not (is_lt r)) (row_total.antisymm g.key k) ∙ tie (row_cmp k g.key)

beside_tied : (k : Row) (gs : List Group) → beside k (map (λ (g : Group). (g.key, g)) gs) ≡ filter (ties (λ (x y : Group). is_lt (row_cmp x.key y.key)) (with_key k)) gs
beside_tied k [] = refl
beside_tied k (g ∷ gs) =
    let rest = filter (ties (λ (x y : Group). is_lt (row_cmp x.key y.key)) (with_key k)) gs in
    let tagged = filter (λ (p : Row × Group). eq_by_cmp row_cmp k p.0) (map (λ (g : Group). (g.key, g)) gs) in
    elim (eq_by_cmp row_cmp k g.key) as (λ b. map (λ (p : Row × Group). p.1) (cond b ((g.key, g) ∷ tagged) tagged) ≡ cond b (g ∷ rest) rest) [
      | true ↦ ap (λ (xs : List Group). g ∷ xs) (beside_tied k gs)
      | false ↦ beside_tied k gs
    ]
    ∙ ap (λ b. cond b (g ∷ rest) rest) (sym (tied k g))

pub beside_from : (old new : List Group) → IsStableBy (λ (x y : Group). is_lt (row_cmp x.key y.key)) old new → SameBeside old new
beside_from old new stable k = beside_tied k new ∙ stable (with_key k) ∙ sym (beside_tied k old)

-- ---- combined groups

module _ (shape : Shape) (grows : Grows shape) where
  put_together : (g : Group) (hs : List Group) → together shape (put_before g hs) ≡ together shape (g ∷ hs)
  put_together g [] = refl
  put_together g (h ∷ hs) =
      elim (eq_by_cmp row_cmp g.key h.key) as (λ b. eq_by_cmp row_cmp g.key h.key ≡ b → together shape (cond b (merge_groups g h ∷ hs) (g ∷ h ∷ hs)) ≡ together shape (g ∷ h ∷ hs)) [
        | true ↦ λ e. before shape grows hs (merge_groups g h ∷ []) (g ∷ h ∷ []) (sym (merge_two shape g h (one_row g.key h.key e)))
        | false ↦ λ e. refl
      ] refl

  pub combined_together : (gs : List Group) → together shape (combined gs) ≡ together shape gs
  combined_together [] = refl
  combined_together (g ∷ gs) = put_together g (combined gs) ∙ behind shape grows (g ∷ []) (combined gs) gs (combined_together gs)

  put_has : (k : Row) (g : Group) (hs : List Group) → has shape k (put_before g hs) ≡ has shape k (g ∷ hs)
  put_has k g [] = refl
  put_has k g (h ∷ hs) =
      elim (eq_by_cmp row_cmp g.key h.key) as (λ b. eq_by_cmp row_cmp g.key h.key ≡ b → has shape k (cond b (merge_groups g h ∷ hs) (g ∷ h ∷ hs)) ≡ has shape k (g ∷ h ∷ hs)) [
        | true ↦ λ e. either (eq_by_cmp row_cmp k g.key) (eq_by_cmp row_cmp k h.key) (has shape k hs) (ap (eq_by_cmp row_cmp k) (one_row g.key h.key e))
        | false ↦ λ e. refl
      ] refl
    where
      either : (a b r : Bool) → a ≡ b → (b || r) ≡ (a || (b || r))
      either true true r e = refl
      either true false r e = cc
      either false b r e = refl

  pub combined_has : (k : Row) (gs : List Group) → has shape k (combined gs) ≡ has shape k gs
  combined_has k [] = refl
  combined_has k (g ∷ gs) = put_has k g (combined gs) ∙ ap (λ b. eq_by_cmp row_cmp k g.key || b) (combined_has k gs)

-- in strict order, from a key on
abbrev IsUp : Row → List Group → Type 0
IsUp k gs = (h : Group) × ((hs : List Group) × (gs ≡ h ∷ hs) × (h.key ≡ k) × (is_ascending row_cmp (map (λ (g : Group). g.key) (h ∷ hs)) ≡ true))

less_from : (r : Ordering) → is_eq r ≡ false → is_lt (ordering_reverse r) ≡ false → is_lt r ≡ true
less_from Less e f = refl
less_from Equal e f = cc
less_from Greater e f = cc

pub combined_up : (g : Group) (gs : List Group) → Rises (map (λ (x : Group). x.key) (g ∷ gs)) → IsUp g.key (combined (g ∷ gs))
combined_up g [] up = (g, ([], refl, refl, refl))
combined_up g (y ∷ ys) up =
    let rest = combined_up y ys up.1 in
    let h = rest.0 in
    let hs = rest.1.0 in
    let whole : combined (g ∷ y ∷ ys) ≡ put_before g (h ∷ hs) = ap (put_before g) rest.1.1 in
    let is_y : h.key ≡ y.key = rest.1.2 in
    let asc = rest.1.3 in
    elim (eq_by_cmp row_cmp g.key h.key) as (λ b. eq_by_cmp row_cmp g.key h.key ≡ b → combined (g ∷ y ∷ ys) ≡ cond b (merge_groups g h ∷ hs) (g ∷ h ∷ hs) → IsUp g.key (combined (g ∷ y ∷ ys))) [
      | true ↦ λ e w. (merge_groups g h, (hs, w, sym (one_row g.key h.key e), asc))
      | false ↦ λ e w. (
        g,
        (
          h ∷ hs,
          w,
          refl,
          both _ _ (less_from (row_cmp g.key h.key) e (ap is_lt (sym (row_total.antisymm h.key g.key)) ∙ ap (λ k. is_lt (row_cmp k g.key)) is_y ∙ up.0)) asc,
        ),
      )
    ] refl whole

pub combined_ascends : (gs : List Group) → Rises (map (λ (x : Group). x.key) gs) → is_ascending row_cmp (map (λ (x : Group). x.key) (combined gs)) ≡ true
combined_ascends [] up = refl
combined_ascends (g ∷ gs) up = let h = combined_up g gs up in ap (λ (xs : List Group). is_ascending row_cmp (map (λ (x : Group). x.key) xs)) h.1.1 ∙ h.1.3

-- ---- room

pub put_rows : (g : Group) (hs : List Group) → all_rows (put_before g hs) ≡ g.rows + all_rows hs
put_rows g [] = omega arith
put_rows g (h ∷ hs) =
    let f = λ (x : Group). x.rows in
    let one = sum_by-cons f (merge_groups g h) hs in
    let two = sum_by-cons f g (h ∷ hs) in
    let three = sum_by-cons f h hs in
    elim (eq_by_cmp row_cmp g.key h.key) as (λ b. all_rows (cond b (merge_groups g h ∷ hs) (g ∷ h ∷ hs)) ≡ g.rows + all_rows (h ∷ hs)) [
      | true ↦ omega (arith, one, three)
      | false ↦ two
    ]

pub combined_rows : (gs : List Group) → all_rows (combined gs) ≡ all_rows gs
combined_rows [] = refl
combined_rows (g ∷ gs) =
    let put = put_rows g (combined gs) in
    let rest = combined_rows gs in
    let cons = sum_by-cons (λ (x : Group). x.rows) g gs in
    omega (arith, put, rest, cons)

abbrev AllFit : ℕ → List Group → Type 0
AllFit width gs = (j : ℕ) (d : Group) → j < length gs → IsFit width (get_or gs j d)

pub merged_fit : (width : ℕ) (g h : Group) → IsFit width g → IsFit width h → IsFit width (merge_groups g h)
merged_fit width g h fit_g fit_h = record {
  wide = zipped-length g.states h.states width fit_g.wide fit_h.wide;
  within = λ c. let count = zipped_count g.states h.states c in let a = fit_g.within c in let b = fit_h.within c in omega (arith, count, a, b);
}

fit_cons : (width : ℕ) (g : Group) (hs : List Group) → IsFit width g → AllFit width hs → AllFit width (g ∷ hs)
fit_cons width g hs fit all zero d l = fit
fit_cons width g hs fit all (suc j) d l = all j d (omega (arith, l))

put_fit : (width : ℕ) (g : Group) (hs : List Group) → IsFit width g → AllFit width hs → AllFit width (put_before g hs)
put_fit width g [] fit all = fit_cons width g [] fit all
put_fit width g (h ∷ hs) fit all =
    elim (eq_by_cmp row_cmp g.key h.key) as (λ b. AllFit width (cond b (merge_groups g h ∷ hs) (g ∷ h ∷ hs))) [
      | true ↦ fit_cons width (merge_groups g h) hs (merged_fit width g h fit (all 0 h (omega arith))) (λ j d l. all (suc j) d (omega (arith, l)))
      | false ↦ fit_cons width g (h ∷ hs) fit all
    ]

combined_fit : (width : ℕ) (gs : List Group) → AllFit width gs → AllFit width (combined gs)
combined_fit width [] all = all
combined_fit width (g ∷ gs) all = put_fit width g (combined gs) (all 0 g (omega arith)) (combined_fit width gs (λ j d l. all (suc j) d (omega (arith, l))))

first_merges : (width : ℕ) (g : Group) (hs : List Group) → IsFit width g → AllFit width hs → g.rows + all_rows hs ≤ most_entries → MergesWithFirst g hs
first_merges width g [] fit all few = tt
first_merges width g (h ∷ hs) fit all few =
    let fit_h = all 0 h (omega arith) in
    let cons = sum_by-cons (λ (x : Group). x.rows) h hs in
    record {
      widths = fit.wide ∙ sym fit_h.wide;
      rows = omega (arith, few, cons);
      few = λ c. let a = fit.within c in let b = fit_h.within c in omega (arith, a, b, few, cons);
    }

-- the group before the n-th can be made one with those from there on
pub merges_next : (width : ℕ) (all : List Group) (g : Group) (m n : ℕ) → AreFit width all → drop m all ≡ g ∷ drop n all → MergesWithFirst g (combined (drop n all))
merges_next width all g m n are next =
    let f = λ (x : Group). x.rows in
    let part = sum_by-take-drop f all m in
    let cons = sum_by-cons f g (drop n all) in
    let here : all_rows (drop m all) ≡ all_rows (g ∷ drop n all) = ap all_rows next in
    let same = combined_rows (drop n all) in
    let few = are.few in
    let long : length (drop m all) ≡ length (g ∷ drop n all) = ap (λ (xs : List Group). length xs) next in
    let fits : AllFit width (drop m all) = λ j d l. subst (λ (x : Group). IsFit width x) (sym (get_or-drop m all j d)) (are.fit (m + j) d (let e = length-drop m all in omega (arith, l, e))) in
    let fits_next : AllFit width (g ∷ drop n all) = subst (λ (xs : List Group). AllFit width xs) next fits in
    first_merges width g (combined (drop n all)) (fits_next 0 g (omega arith)) (combined_fit width (drop n all) (λ j d l. fits_next (suc j) d (omega (arith, l))))
    (omega (arith, part, cons, here, same, few))

pub combined_wide : (width : ℕ) (gs : List Group) → AreFit width gs → (j : ℕ) (d : Group) → j < length (combined gs) → length (get_or (combined gs) j d).states ≡ width
combined_wide width gs are j d l = (combined_fit width gs are.fit j d l).wide
