-- What files say together, with one file more.
use Rattle.std.proofs.Common.{◌≡◌, ◌≢◌, ℕ, ◌<◌, Bool, if◌then◌else◌, List, [], ◌∷◌, ◌++◌, length, get_or, slice_set, slice_index_or, zero, suc, inl, inr, refl, sym, ap, ◌∙◌, arith}
use Rattle.std.proofs.lemmas.Bool.{eq-eqb, ne_eqb}
use Rattle.std.proofs.lemmas.Bool.Decides.{eqb_tells}
use Rattle.std.proofs.lemmas.List.{ext_get_or, get_or-set_other, get_or-set_same, length-set}
use Rattle.std.proofs.lemmas.List.FromFn.{get_or-map-range_with_len, length-map-range_with_len}
use Rattle.meaning.specs.Cut.{Cut}
use Rattle.meaning.specs.Gather.{join_cells}
use Rattle.meaning.specs.Said.{Answer}
use Rattle.meaning.specs.Said.{Cell}
use Rattle.meaning.specs.declared.answer.Cell.TheVariants.{Nothing, One}
use Rattle.meaning_laws.proofs.Cells.{join_cells-assoc, join_nothing}
use Rattle.answer_fields.specs.declared.fault.DecodeFault.{DecodeFault}
use Rattle.gathering.specs.Gathering.{join_states}
use Rattle.jobs.specs.Gathering.{Taking, answer, state, passed, cell_among, cell_in, gathered}

-- a cell with one file more
pub among_more : (k : ℕ) (ts : List Taking) (t : Taking) → cell_among k (ts ++ t ∷ []) ≡ join_cells (cell_among k ts) (cell_in k t)
among_more k [] t = join_nothing (cell_in k t)
among_more k (x ∷ ts) t = ap (join_cells (cell_in k x)) (among_more k ts t) ∙ sym (join_cells-assoc (cell_in k x) (cell_among k ts) (cell_in k t))

pub gathered_length : (cut : Cut) (ts : List Taking) → length (gathered cut ts) ≡ length cut
gathered_length cut ts = length-map-range_with_len (λ k. cell_among k ts) 0 (length cut)

-- the cell of a fragment
pub cell_gathered : (cut : Cut) (ts : List Taking) (k : ℕ) → k < length cut → get_or (gathered cut ts) k Nothing ≡ cell_among k ts
cell_gathered cut ts k below = get_or-map-range_with_len (λ k. cell_among k ts) 0 (length cut) k k Nothing below (omega arith)

-- cells that are so for each fragment are what the files say
pub gathered_from : (cut : Cut) (cells : List Cell) (ts : List Taking) → length cells ≡ length cut → ((k : ℕ) → k < length cut → get_or cells k Nothing ≡ cell_among k ts) → cells ≡ gathered cut ts
gathered_from cut cells ts long each =
    ext_get_or Nothing cells (gathered cut ts) (long ∙ sym (gathered_length cut ts)) (λ k below.
    let within : k < length cut = omega (arith, below, long) in
    each k within ∙ sym (cell_gathered cut ts k within))

-- ---- an answer

said_here : (a : Answer) (k : ℕ) → a.k ≡ k → cell_in k (answer a) ≡ One a.body
said_here a k same = ap (λ (b : Bool). if b then One a.body else Nothing) (eq-eqb a.k k same)

said_elsewhere : (a : Answer) (k : ℕ) → a.k ≢ k → cell_in k (answer a) ≡ Nothing
said_elsewhere a k other = ap (λ (b : Bool). if b then One a.body else Nothing) (ne_eqb a.k k other)

-- an answer changes the cell of its fragment alone
pub answer_more : (cut : Cut) (ts : List Taking) (a : Answer) → a.k < length cut
    → slice_set (gathered cut ts) a.k (join_cells (slice_index_or (gathered cut ts) a.k Nothing) (One a.body)) ≡ gathered cut (ts ++ answer a ∷ [])
answer_more cut ts a below = gathered_from cut changed (ts ++ answer a ∷ []) long each
  where
    put : Cell
    put = join_cells (slice_index_or (gathered cut ts) a.k Nothing) (One a.body)

    changed : List Cell
    changed = slice_set (gathered cut ts) a.k put

    long : length changed ≡ length cut
    long = length-set (gathered cut ts) a.k put ∙ gathered_length cut ts

    whole : a.k < length (gathered cut ts)
    whole = let all = gathered_length cut ts in omega (arith, all, below)

    here : (k : ℕ) → a.k ≡ k → get_or changed k Nothing ≡ cell_among k (ts ++ answer a ∷ [])
    here k same =
        ap (λ j. get_or changed j Nothing) (sym same)
        ∙ get_or-set_same (gathered cut ts) a.k put Nothing whole
        ∙ ap (λ c. join_cells c (One a.body)) (cell_gathered cut ts a.k below)
        ∙ ap (join_cells (cell_among a.k ts)) (sym (said_here a a.k refl))
        ∙ sym (among_more a.k ts (answer a))
        ∙ ap (λ j. cell_among j (ts ++ answer a ∷ [])) same

    elsewhere : (k : ℕ) → k < length cut → a.k ≢ k → get_or changed k Nothing ≡ cell_among k (ts ++ answer a ∷ [])
    elsewhere k within other =
        get_or-set_other (gathered cut ts) a.k k put Nothing (λ e. other (sym e))
        ∙ cell_gathered cut ts k within
        ∙ sym (join_nothing (cell_among k ts))
        ∙ ap (join_cells (cell_among k ts)) (sym (said_elsewhere a k other))
        ∙ sym (among_more k ts (answer a))

    each : (k : ℕ) → k < length cut → get_or changed k Nothing ≡ cell_among k (ts ++ answer a ∷ [])
    each k within = elim (eqb_tells a.k k) [ inl same ↦ here k same.1 | inr other ↦ elsewhere k within other.1 ]

-- ---- a state

joined_at : (xs ys : List Cell) (k : ℕ) → length xs ≡ length ys → get_or (join_states xs ys) k Nothing ≡ join_cells (get_or xs k Nothing) (get_or ys k Nothing)
joined_at [] [] k same = refl
joined_at [] (y ∷ ys) k same = absurd (omega (arith, same))
joined_at (x ∷ xs) [] k same = absurd (omega (arith, same))
joined_at (x ∷ xs) (y ∷ ys) zero same = refl
joined_at (x ∷ xs) (y ∷ ys) (suc k) same = joined_at xs ys k (omega (arith, same))

joined_length : (xs ys : List Cell) → length xs ≡ length ys → length (join_states xs ys) ≡ length xs
joined_length [] [] same = refl
joined_length [] (y ∷ ys) same = absurd (omega (arith, same))
joined_length (x ∷ xs) [] same = absurd (omega (arith, same))
joined_length (x ∷ xs) (y ∷ ys) same = ap (λ n. suc n) (joined_length xs ys (omega (arith, same)))

-- each cell is joined with that of the state
pub state_more : (cut : Cut) (ts : List Taking) (cells : List Cell) → length cells ≡ length cut → join_states (gathered cut ts) cells ≡ gathered cut (ts ++ state cells ∷ [])
state_more cut ts cells long =
    let same : length (gathered cut ts) ≡ length cells = gathered_length cut ts ∙ sym long in
    gathered_from cut (join_states (gathered cut ts) cells) (ts ++ state cells ∷ []) (joined_length (gathered cut ts) cells same ∙ gathered_length cut ts)
    (λ k within.
    joined_at (gathered cut ts) cells k same
    ∙ ap (λ c. join_cells c (get_or cells k Nothing)) (cell_gathered cut ts k within)
    ∙ sym (among_more k ts (state cells)))

-- ---- a file that is passed over

pub passed_more : (cut : Cut) (ts : List Taking) (fault : DecodeFault) → gathered cut ts ≡ gathered cut (ts ++ passed fault ∷ [])
passed_more cut ts fault =
    gathered_from cut (gathered cut ts) (ts ++ passed fault ∷ []) (gathered_length cut ts)
    (λ k within. cell_gathered cut ts k within ∙ sym (join_nothing (cell_among k ts)) ∙ sym (among_more k ts (passed fault)))
