-- Cells joined with what is new of them, and with another coordinator's.
use Rattle.std.specs.Prelude.{◌≡◌, ℕ, zero, suc, ◌+◌, ◌<◌, ◌≤◌, true, false, cond, List, [], ◌∷◌, ◌++◌, length, take, drop, slice_set, slice_index_or, get_or}
use Rattle.std.specs.List.{list_all, enumerate_from}
use Rattle.std.proofs.Common.{refl, sym, ap, subst, arith}
use Rattle.meaning.specs.declared.plan.Plan.{Plan}
use Rattle.meaning.specs.Said.{Cell}
use Rattle.meaning.specs.declared.answer.Cell.TheVariants.{Nothing, One, Conflict}
use Rattle.meaning.specs.Cut.{Cut}
use Rattle.meaning.specs.Gather.{same_body, join_cells}
use Rattle.meaning_laws.proofs.Cells.{join_cells-comm, join_cells-assoc, join_cells_same}
use Rattle.meaning.proofs.Tests.{first_of, second_of, both}
use Rattle.gathering.specs.Fitted.{is_fitting, AreFitting}
use Rattle.gathering.specs.Gathering.{join_states}
use Rattle.gathering.specs.Joining.{delta_of, all_deltas, conflict_unless}
use Rattle.gathering.proofs.Fitting.{is_fitting-join}

-- ---- delta

-- a cell joined with its delta is the cell joined with the other
join-delta : (own other : Cell) → join_cells own (delta_of own other) ≡ join_cells own other
join-delta Nothing other = refl
join-delta (One known) Nothing = refl
join-delta (One known) (One said) = elim (same_body known said) as (λ t. join_cells (One known) (conflict_unless t) ≡ cond t (One known) Conflict) [ true ↦ refl | false ↦ refl ]
join-delta (One known) Conflict = refl
join-delta Conflict Nothing = refl
join-delta Conflict (One said) = refl
join-delta Conflict Conflict = refl

pub join_states-delta : (own others : List Cell) → join_states own (all_deltas own others) ≡ join_states own others
join_states-delta [] others = refl
join_states-delta (c ∷ own) [] = refl
join_states-delta (c ∷ own) (d ∷ others) = λ i. join-delta c d i ∷ join_states-delta own others i

pub length-delta : (own others : List Cell) → length own ≡ length others → length own ≡ length (all_deltas own others)
length-delta [] others e = refl
length-delta (c ∷ own) [] e = absurd (omega (arith, e))
length-delta (c ∷ own) (d ∷ others) e = ap suc (length-delta own others (omega (arith, e)))

-- the delta of one cell more
pub delta_next : (k : ℕ) (own others : List Cell) (a b : Cell) → k < length own → k < length others → a ≡ slice_index_or own k a → b ≡ slice_index_or others k b
    → take (suc k) (all_deltas own others) ≡ take k (all_deltas own others) ++ delta_of a b ∷ []
delta_next k [] others a b p q e f = absurd (omega (arith, p))
delta_next k (c ∷ own) [] a b p q e f = absurd (omega (arith, q))
delta_next zero (c ∷ own) (d ∷ others) a b p q e f = λ i. delta_of (sym e i) (sym f i) ∷ []
delta_next (suc k) (c ∷ own) (d ∷ others) a b p q e f = ap (λ cs. delta_of c d ∷ cs) (delta_next k own others a b (omega (arith, p)) (omega (arith, q)) e f)

-- the last cell that isn't joined yet is joined
pub joined_before : (n : ℕ) (cells put : List Cell) (change : Cell) → n < length cells
    → slice_set (take (suc n) cells ++ join_states (drop (suc n) cells) put) n (join_cells (slice_index_or (take (suc n) cells ++ join_states (drop (suc n) cells) put) n Nothing) change)
    ≡ take n cells ++ join_states (drop n cells) (change ∷ put)
joined_before n [] put change p = absurd (omega (arith, p))
joined_before zero (c ∷ cells) put change p = refl
joined_before (suc n) (c ∷ cells) put change p = ap (λ cs. c ∷ cs) (joined_before n cells put change (omega (arith, p)))

-- ---- joined states

pub join_states-comm : (xs ys : List Cell) → join_states xs ys ≡ join_states ys xs
join_states-comm [] [] = refl
join_states-comm [] (d ∷ ys) = refl
join_states-comm (c ∷ xs) [] = refl
join_states-comm (c ∷ xs) (d ∷ ys) = λ i. join_cells-comm c d i ∷ join_states-comm xs ys i

pub join_states-assoc : (xs ys zs : List Cell) → join_states (join_states xs ys) zs ≡ join_states xs (join_states ys zs)
join_states-assoc [] ys zs = refl
join_states-assoc (c ∷ xs) [] zs = refl
join_states-assoc (c ∷ xs) (d ∷ ys) [] = refl
join_states-assoc (c ∷ xs) (d ∷ ys) (e ∷ zs) = λ i. join_cells-assoc c d e i ∷ join_states-assoc xs ys zs i

pub join_states_same : (xs : List Cell) → join_states xs xs ≡ xs
join_states_same [] = refl
join_states_same (c ∷ xs) = λ i. join_cells_same c i ∷ join_states_same xs i

pub length-join_states : (xs ys : List Cell) → length xs ≡ length ys → length (join_states xs ys) ≡ length xs
length-join_states [] ys e = refl
length-join_states (c ∷ xs) [] e = absurd (omega (arith, e))
length-join_states (c ∷ xs) (d ∷ ys) e = ap suc (length-join_states xs ys (omega (arith, e)))

module _ (plan : Plan) (cut : Cut) where
  fitting_from : (n : ℕ) (xs ys : List Cell) → list_all (λ p. is_fitting plan cut p.0 p.1) (enumerate_from n xs) ≡ true → list_all (λ p. is_fitting plan cut p.0 p.1) (enumerate_from n ys) ≡ true
      → list_all (λ p. is_fitting plan cut p.0 p.1) (enumerate_from n (join_states xs ys)) ≡ true
  fitting_from n [] ys e f = refl
  fitting_from n (c ∷ xs) [] e f = refl
  fitting_from n (c ∷ xs) (d ∷ ys) e f = both _ _ (is_fitting-join plan cut n c d (first_of _ _ e) (first_of _ _ f)) (fitting_from (n + 1) xs ys (second_of _ _ e) (second_of _ _ f))

  -- fitting cells joined are fitting
  pub AreFitting-join : (xs ys : List Cell) → AreFitting plan cut xs → AreFitting plan cut ys → AreFitting plan cut (join_states xs ys)
  AreFitting-join xs ys fits fit = record { each = fitting_from 0 xs ys fits.each fit.each }

  all_from : (n : ℕ) (cells : List Cell) → ((k : ℕ) → k < length cells → is_fitting plan cut (n + k) (get_or cells k Nothing) ≡ true) → list_all (λ p. is_fitting plan cut p.0 p.1) (enumerate_from n cells) ≡ true
  all_from n [] at = refl
  all_from n (c ∷ cells) at =
      let here : n + 0 ≡ n = omega arith in
      both _ _ (subst (λ (j : ℕ). is_fitting plan cut j c ≡ true) here (at 0 (omega arith)))
      (all_from (n + 1) cells (λ k below.
      let later : n + suc k ≡ (n + 1) + k = omega arith in
      subst (λ (j : ℕ). is_fitting plan cut j (get_or cells k Nothing) ≡ true) later (at (suc k) (omega (arith, below)))))

  -- cells of which each fits its fragment
  pub AreFitting-from : (cells : List Cell) → ((k : ℕ) → k < length cells → is_fitting plan cut k (get_or cells k Nothing) ≡ true) → AreFitting plan cut cells
  AreFitting-from cells at = record {
    each = all_from 0 cells (λ k below.
        let same : k ≡ 0 + k = omega arith in
        subst (λ (j : ℕ). is_fitting plan cut j (get_or cells k Nothing) ≡ true) same (at k below));
  }

-- ---- what is new, in place of the others

pub reduced_next : (k : ℕ) (own others : List Cell) (a : Cell) → k < length own → length own ≡ length others → a ≡ slice_index_or own k a
    → slice_set (take k (all_deltas own others) ++ drop k others) k (delta_of a (slice_index_or (take k (all_deltas own others) ++ drop k others) k Nothing))
    ≡ take (suc k) (all_deltas own others) ++ drop (suc k) others
reduced_next k [] others a below long e = absurd (omega (arith, below))
reduced_next k (c ∷ own) [] a below long e = absurd (omega (arith, long))
reduced_next zero (c ∷ own) (d ∷ others) a below long e = λ i. delta_of (e i) d ∷ others
reduced_next (suc k) (c ∷ own) (d ∷ others) a below long e =
    ap (λ (cs : List Cell). delta_of c d ∷ cs) (reduced_next k own others a (omega (arith, below)) (omega (arith, long)) e)

pub reduced_all : (k : ℕ) (own others : List Cell) → length own ≡ length others → length own ≤ k → take k (all_deltas own others) ++ drop k others ≡ all_deltas own others
reduced_all zero [] [] long end = refl
reduced_all (suc k) [] [] long end = refl
reduced_all k [] (d ∷ others) long end = absurd (omega (arith, long))
reduced_all k (c ∷ own) [] long end = absurd (omega (arith, long))
reduced_all zero (c ∷ own) (d ∷ others) long end = absurd (omega (arith, end))
reduced_all (suc k) (c ∷ own) (d ∷ others) long end = ap (λ (cs : List Cell). delta_of c d ∷ cs) (reduced_all k own others (omega (arith, long)) (omega (arith, end)))
