-- The runs of the cells up to a row.
use Rattle.std.proofs.Common.{◌≡◌, ℕ, ◌+◌, ◌-◌, ◌<◌, ◌≤◌, Bool, true, false, List, [], ◌∷◌, ◌++◌, length, map, take, drop, get_or, refl, sym, ap, subst, ◌∙◌, arith, append_assoc, length-append, lit<}
use Rattle.std.specs.Prelude.{nat_lt, nat_le, zip, replicate, not}
use Rattle.std.specs.List.{list_all, flat_map}
use Rattle.std.specs.Cmp.{Equal-is}
use Rattle.std.proofs.lemmas.Bool.{lt-ltb, le-leb}
use Rattle.std.proofs.lemmas.List.{append-nil, take_more, take_all, length-map, map-append, get_or-map, get_or-take, get_or-drop, length-take, length-drop, length-take-le}
use Rattle.std.proofs.lemmas.List.Concat.{flat_map-append}
use Rattle.std.proofs.lemmas.Grind.{replicate_next}
use Rattle.meaning.specs.declared.value.Value.{Value}
use Rattle.meaning.specs.declared.value.Value.TheVariants.{Null, Text}
use Rattle.meaning.specs.Order.{same_value, value_cmp}
use Rattle.meaning.proofs.Orders.{value_exact}
use Rattle.meaning.proofs.Tests.{all_append, both, first_of, second_of}
use Rattle.meaning.proofs.Same.{same_itself}
use Rattle.blocks.specs.Runs.{repeated}
use Rattle.blocks.specs.Runs.{are_unequal_neighbours}
use Rattle.blocks.specs.Runs.{AreRuns}
use Rattle.blocks.specs.Plain.{cells_at}

-- the closed runs, and one that began at `start` and is still open in front of `row`
pub record RunsSoFar (cells : List Value) (starts lengths : List ℕ) (start row : ℕ) : Type 0 where
  pub cells_are : repeated (zip (cells_at cells starts) lengths) ++ replicate (row - start) (get_or cells start Null) ≡ take row cells
  pub apart : are_unequal_neighbours (cells_at cells starts ++ get_or cells start Null ∷ []) ≡ true
  pub not_empty : list_all (nat_le 1) lengths ≡ true
  pub a_length_each : length lengths ≡ length starts
  pub within : list_all (λ at. nat_lt at (length cells)) starts ≡ true
  pub begun : start < row

zip-push : {X Y : Type 0} (xs : List X) (ys : List Y) (x : X) (y : Y) → length ys ≡ length xs → zip (xs ++ x ∷ []) (ys ++ y ∷ []) ≡ zip xs ys ++ (x, y) ∷ []
zip-push [] [] x y e = refl
zip-push [] (b ∷ ys) x y e = absurd (omega arith)
zip-push (a ∷ xs) [] x y e = absurd (omega arith)
zip-push (a ∷ xs) (b ∷ ys) x y e = ap (λ zs. (a, b) ∷ zs) (zip-push xs ys x y (omega arith))

repeated-push : (cells : List Value) (starts lengths : List ℕ) (start n : ℕ) → length lengths ≡ length starts → repeated (zip (cells_at cells (starts ++ start ∷ [])) (lengths ++ n ∷ [])) ≡ repeated (zip (cells_at cells starts) lengths) ++ replicate n (get_or cells start Null)
repeated-push cells starts lengths start n e =
    let at : ℕ → Value = λ index. get_or cells index Null in
    let f : Value × ℕ → List Value = λ run. replicate run.1 run.0 in
    let pairs : length lengths ≡ length (map at starts) = e ∙ sym (length-map starts at) in
    let z : zip (map at (starts ++ start ∷ [])) (lengths ++ n ∷ []) ≡ zip (map at starts) lengths ++ (at start, n) ∷ [] =
    ap (λ vs. zip vs (lengths ++ n ∷ [])) (map-append at starts (start ∷ [])) ∙ zip-push (map at starts) lengths (at start) n pairs in
    ap (flat_map f) z ∙ (flat_map-append f (zip (map at starts) lengths) ((at start, n) ∷ []) ∙ ap (λ vs. flat_map f (zip (map at starts) lengths) ++ vs) (append-nil (replicate n (at start))))

unequal-push : (vs : List Value) (v w : Value) → are_unequal_neighbours (vs ++ v ∷ []) ≡ true → same_value v w ≡ false → are_unequal_neighbours ((vs ++ v ∷ []) ++ w ∷ []) ≡ true
unequal-push [] v w e d = both _ _ (ap not d) refl
unequal-push (a ∷ []) v w e d = both _ _ (first_of _ _ e) (both _ _ (ap not d) refl)
unequal-push (a ∷ b ∷ vs) v w e d = both _ _ (first_of _ _ e) (unequal-push (b ∷ vs) v w (second_of _ _ e) d)

pub differ : (x y : Value) → (x ≡ y → ⊥) → same_value x y ≡ false
differ x y h =
    elim (same_value x y) as (λ b. same_value x y ≡ b → b ≡ false) [
      | true ↦ λ e. absurd (h (value_exact x y ((Equal-is (value_cmp x y)).0 e)))
      | false ↦ λ e. refl
    ] refl

replicate_one : (n m : ℕ) (v : Value) → m ≡ n + 1 → replicate m v ≡ replicate n v ++ v ∷ []
replicate_one n m v e = ap (λ k. replicate k v) e ∙ replicate_next n v

pub runs_begun : (cells : List Value) → 1 ≤ length cells → RunsSoFar cells [] [] 0 1
runs_begun [] h = absurd (omega arith)
runs_begun (v ∷ cells) h = record { cells_are = refl; apart = refl; not_empty = refl; a_length_each = refl; within = refl; begun = lit< tt }

-- one more cell of the same run
pub runs_kept : (cells : List Value) (starts lengths : List ℕ) (start row : ℕ) → RunsSoFar cells starts lengths start row → row < length cells → get_or cells row Null ≡ get_or cells start Null → RunsSoFar cells starts lengths start (row + 1)
runs_kept cells starts lengths start row r h e =
    let front = repeated (zip (cells_at cells starts) lengths) in
    let v = get_or cells start Null in
    let n : row + 1 - start ≡ (row - start) + 1 = let o = r.begun in omega arith in
    record {
      cells_are = ap (λ vs. front ++ vs) (replicate_one (row - start) (row + 1 - start) v n) ∙ (sym (append_assoc front (replicate (row - start) v) (v ∷ [])) ∙ (ap (λ vs. vs ++ v ∷ []) r.cells_are ∙ (ap (λ w. take row cells ++ w ∷ []) (sym e) ∙ sym (take_more cells row Null h))));
      apart = r.apart;
      not_empty = r.not_empty;
      a_length_each = r.a_length_each;
      within = r.within;
      begun = let o = r.begun in omega arith;
    }

-- closed runs of the cells up to a row
pub record Closed (cells heads : List Value) (starts lengths : List ℕ) (row : ℕ) : Type 0 where
  pub cells_are : repeated (zip (cells_at cells starts) lengths) ≡ take row cells
  pub heads_are : cells_at cells starts ≡ heads
  pub not_empty : list_all (nat_le 1) lengths ≡ true
  pub a_length_each : length lengths ≡ length starts
  pub within : list_all (λ at. nat_lt at (length cells)) starts ≡ true

closed_more : (cells : List Value) (starts lengths : List ℕ) (start row : ℕ) → RunsSoFar cells starts lengths start row → row ≤ length cells → Closed cells (cells_at cells starts ++ get_or cells start Null ∷ []) (starts ++ start ∷ []) (lengths ++ (row - start) ∷ []) row
closed_more cells starts lengths start row r h =
    let at : ℕ → Value = λ index. get_or cells index Null in
    let o = r.begun in
    record {
      cells_are = repeated-push cells starts lengths start (row - start) r.a_length_each ∙ r.cells_are;
      heads_are = map-append at starts (start ∷ []);
      not_empty = all_append (nat_le 1) lengths ((row - start) ∷ []) r.not_empty (both _ _ (le-leb 1 (row - start) (omega arith)) refl);
      a_length_each = length-append lengths ((row - start) ∷ []) ∙ (ap (λ k. k + 1) r.a_length_each ∙ sym (length-append starts (start ∷ [])));
      within = all_append (λ at. nat_lt at (length cells)) starts (start ∷ []) r.within (both _ _ (lt-ltb start (length cells) (omega arith)) refl);
    }

runs_closed : (cells : List Value) (starts lengths new_starts new_lengths : List ℕ) (start row : ℕ) → RunsSoFar cells starts lengths start row → row ≤ length cells → new_starts ≡ starts ++ start ∷ [] → new_lengths ≡ lengths ++ (row - start) ∷ [] → Closed cells (cells_at cells starts ++ get_or cells start Null ∷ []) new_starts new_lengths row
runs_closed cells starts lengths new_starts new_lengths start row r h p q = rw (p, q) (closed_more cells starts lengths start row r h)

-- another run begins
pub runs_more : (cells : List Value) (starts lengths new_starts new_lengths : List ℕ) (start row : ℕ) → RunsSoFar cells starts lengths start row → row < length cells → same_value (get_or cells start Null) (get_or cells row Null) ≡ false → new_starts ≡ starts ++ start ∷ [] → new_lengths ≡ lengths ++ (row - start) ∷ [] → RunsSoFar cells new_starts new_lengths row (row + 1)
runs_more cells starts lengths new_starts new_lengths start row r h d p q =
    let c = runs_closed cells starts lengths new_starts new_lengths start row r (omega arith) p q in
    let one : row + 1 - row ≡ 1 = omega arith in
    let w = get_or cells row Null in
    record {
      cells_are = rw (c.cells_are, one) (sym (take_more cells row Null h));
      apart = rw c.heads_are (unequal-push (cells_at cells starts) (get_or cells start Null) w r.apart d);
      not_empty = c.not_empty;
      a_length_each = c.a_length_each;
      within = c.within;
      begun = omega arith;
    }

-- the last run is closed
pub runs_done : (cells : List Value) (starts lengths new_starts new_lengths : List ℕ) (start row : ℕ) → RunsSoFar cells starts lengths start row → row ≡ length cells → new_starts ≡ starts ++ start ∷ [] → new_lengths ≡ lengths ++ (row - start) ∷ [] → AreRuns cells new_starts new_lengths
runs_done cells starts lengths new_starts new_lengths start row r h p q =
    let c = runs_closed cells starts lengths new_starts new_lengths start row r (omega arith) p q in
    record {
      cells_are = c.cells_are ∙ take_all row cells (omega arith);
      apart = rw c.heads_are r.apart;
      not_empty = c.not_empty;
      a_length_each = c.a_length_each;
      within = c.within;
    }

-- an equal cell goes on with the run, another begins one
pub runs_goes_on : (cells : List Value) (starts lengths : List ℕ) (start row : ℕ) → RunsSoFar cells starts lengths start row → row < length cells → same_value (get_or cells row Null) (get_or cells start Null) ≡ true → RunsSoFar cells starts lengths start (row + 1)
runs_goes_on cells starts lengths start row r h e =
    runs_kept cells starts lengths start row r h (value_exact _ _ ((Equal-is (value_cmp (get_or cells row Null) (get_or cells start Null))).0 e))

pub turned : (x y : Value) → same_value x y ≡ false → same_value y x ≡ false
turned x y e = differ y x (λ p. absurd (let q : same_value x y ≡ true = subst (λ z. same_value x z ≡ true) (sym p) (same_itself x) in cc))

-- another cell begins a run
pub runs_go_apart : (cells : List Value) (starts lengths new_starts new_lengths : List ℕ) (start row : ℕ) → RunsSoFar cells starts lengths start row → row < length cells → same_value (get_or cells row Null) (get_or cells start Null) ≡ false → new_starts ≡ starts ++ start ∷ [] → new_lengths ≡ lengths ++ (row - start) ∷ [] → RunsSoFar cells new_starts new_lengths row (row + 1)
runs_go_apart cells starts lengths new_starts new_lengths start row r h d p q =
    runs_more cells starts lengths new_starts new_lengths start row r h (turned (get_or cells row Null) (get_or cells start Null) d) p q

-- ---- texts of some rows

pub text_at : (texts : List (List ℕ)) (from to row : ℕ) → to ≤ length texts → row < to - from → get_or (map Text (take (to - from) (drop from texts))) row Null ≡ Text (get_or texts (from + row) [])
text_at texts from to row h l =
    let long : row < length (take (to - from) (drop from texts)) = omega (arith, length-take (to - from) (drop from texts), length-drop from texts) in
    get_or-map Text (take (to - from) (drop from texts)) row [] Null long
    ∙ ap Text (get_or-take (to - from) (drop from texts) row [] l ∙ get_or-drop from texts row [])

pub same_at : (texts : List (List ℕ)) (from to row other : ℕ) (b : Bool) → to ≤ length texts → row < to - from → other < row → b ≡ same_value (Text (get_or texts (from + row) [])) (Text (get_or texts (from + other) [])) → b ≡ same_value (get_or (map Text (take (to - from) (drop from texts))) row Null) (get_or (map Text (take (to - from) (drop from texts))) other Null)
same_at texts from to row other b h l m e = rw (text_at texts from to row h l, text_at texts from to other h (omega arith)) e

pub rows_of : (texts : List (List ℕ)) (from to : ℕ) → to ≤ length texts → length (map Text (take (to - from) (drop from texts))) ≡ to - from
rows_of texts from to h = length-map (take (to - from) (drop from texts)) (λ t. Text t) ∙ length-take-le (to - from) (drop from texts) (omega (arith, length-drop from texts))
