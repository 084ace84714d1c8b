-- Joining cells is commutative, associative and idempotent, and a state depends on the set of answers alone.
use Rattle.std.specs.Prelude.{◌≡◌, ℕ, ◌==◌, Bool, true, false, cond, ◌||◌, ◌&&◌, List, [], ◌∷◌, ◌++◌, map, filter, length}
use Rattle.std.specs.List.{list_all, list_any, range_with_len, zip}
use Rattle.std.proofs.Common.{refl, sym, ap, ◌∙◌}
use Rattle.std.proofs.lemmas.List.{map-append}
use Rattle.std.proofs.lemmas.List.Elements.{filter-append}
use Rattle.meaning.specs.Said.{Body}
use Rattle.meaning.specs.Said.{Answer}
use Rattle.meaning.specs.Said.{Cell}
use Rattle.meaning.specs.declared.answer.Cell.TheVariants.{Nothing, One, Conflict}
use Rattle.meaning.specs.Cut.{Cut}
use Rattle.meaning.specs.Gather.{same_body, join_cells, cell_of, said_of, joined}
use Rattle.meaning_laws.specs.Laws.{SameAnswers}
use Rattle.meaning.proofs.Same.{body_exact, same_body_itself, same_body-comm}
use Rattle.meaning.proofs.Tests.{or_second}

-- a test of equal answers, as an equation in its two cases
by_same : {P : Type 0} (a b : Body) → (same_body a b ≡ true → a ≡ b → P) → (same_body a b ≡ false → P) → P
by_same {P} a b yes_case no_case =
    elim (same_body a b) as (λ t. same_body a b
    ≡ t → P) [ true ↦ λ e. yes_case e ((body_exact a b).0 e) | false ↦ λ e. no_case e ] refl

abbrev unless : Bool → Body → Cell
unless t a = cond t (One a) Conflict

pub join_cells_same : (c : Cell) → join_cells c c ≡ c
join_cells_same Nothing = refl
join_cells_same (One a) = ap (λ t. unless t a) (same_body_itself a)
join_cells_same Conflict = refl

pub join_cells-comm : (c d : Cell) → join_cells c d ≡ join_cells d c
join_cells-comm Nothing Nothing = refl
join_cells-comm Nothing (One b) = refl
join_cells-comm Nothing Conflict = refl
join_cells-comm (One a) Nothing = refl
join_cells-comm (One a) (One b) = by_same a b
    (λ e q. ap (λ t. unless t a) e ∙ ap One q ∙ sym (ap (λ t. unless t b) (sym (same_body-comm a b) ∙ e)))
    (λ e. ap (λ t. unless t a) e ∙ sym (ap (λ t. unless t b) (sym (same_body-comm a b) ∙ e)))
join_cells-comm (One a) Conflict = refl
join_cells-comm Conflict Nothing = refl
join_cells-comm Conflict (One b) = refl
join_cells-comm Conflict Conflict = refl

join-Conflict : (c : Cell) → join_cells c Conflict ≡ Conflict
join-Conflict Nothing = refl
join-Conflict (One a) = refl
join-Conflict Conflict = refl

Conflict-join : (c : Cell) → join_cells Conflict c ≡ Conflict
Conflict-join Nothing = refl
Conflict-join (One a) = refl
Conflict-join Conflict = refl

three : (a b c : Body) → join_cells (unless (same_body a b) a) (One c) ≡ join_cells (One a) (unless (same_body b c) b)
three a b c = by_same a b
    (λ ab q. ap (λ t. join_cells (unless t a) (One c)) ab
    ∙ by_same b c
    (λ bc r. ap (λ t. unless t a) (ap (λ x. same_body x c) q ∙ bc)
    ∙ sym (ap (λ t. join_cells (One a) (unless t b)) bc ∙ ap (λ t. unless t a) ab))
    (λ bc. ap (λ t. unless t a) (ap (λ x. same_body x c) q ∙ bc) ∙ sym (ap (λ t. join_cells (One a) (unless t b)) bc)))
    (λ ab. ap (λ t. join_cells (unless t a) (One c)) ab
    ∙ by_same b c
    (λ bc r. sym (ap (λ t. join_cells (One a) (unless t b)) bc ∙ ap (λ t. unless t a) ab))
    (λ bc. sym (ap (λ t. join_cells (One a) (unless t b)) bc)))

pub join_nothing : (c : Cell) → join_cells c Nothing ≡ c
join_nothing Nothing = refl
join_nothing (One a) = refl
join_nothing Conflict = refl

pub join_cells-assoc : (c d e : Cell) → join_cells (join_cells c d) e ≡ join_cells c (join_cells d e)
join_cells-assoc Nothing d e = refl
join_cells-assoc (One a) Nothing e = refl
join_cells-assoc (One a) (One b) Nothing = join_nothing (unless (same_body a b) a)
join_cells-assoc (One a) (One b) (One c) = three a b c
join_cells-assoc (One a) (One b) Conflict = join-Conflict (unless (same_body a b) a)
join_cells-assoc (One a) Conflict e = Conflict-join e ∙ sym (ap (join_cells (One a)) (Conflict-join e))
join_cells-assoc Conflict Nothing e = refl
join_cells-assoc Conflict (One b) e = Conflict-join e ∙ sym (Conflict-join (join_cells (One b) e))
join_cells-assoc Conflict Conflict e = Conflict-join e ∙ sym (Conflict-join (join_cells Conflict e))

-- ---- the cell of a set

pub cell_of-cons : (b : Body) (bs : List Body) → cell_of (b ∷ bs) ≡ join_cells (One b) (cell_of bs)
cell_of-cons b [] = refl
cell_of-cons b (c ∷ bs) = by_same b c
    (λ bc q. ap (λ t. unless (t && list_all (same_body b) bs) b) bc
    ∙ elim (list_all (same_body c) bs) as
    (λ t. list_all (same_body c) bs ≡ t → unless (list_all (same_body b) bs) b ≡ join_cells (One b) (unless t c)) [
      | true ↦ λ all. ap (λ t. unless t b) (ap (λ x. list_all (same_body x) bs) q ∙ all) ∙ sym (ap (λ t. unless t b) bc)
      | false ↦ λ all. ap (λ t. unless t b) (ap (λ x. list_all (same_body x) bs) q ∙ all)
    ] refl)
    (λ bc. ap (λ t. unless (t && list_all (same_body b) bs) b) bc
    ∙ elim (list_all (same_body c) bs) as (λ t. Conflict ≡ join_cells (One b) (unless t c)) [
      | true ↦ sym (ap (λ t. unless t b) bc)
      | false ↦ refl
    ])

-- the cell of two sets together is the join of their cells
pub cell_of-append : (xs ys : List Body) → cell_of (xs ++ ys) ≡ join_cells (cell_of xs) (cell_of ys)
cell_of-append [] ys = refl
cell_of-append (x ∷ xs) ys =
    cell_of-cons x (xs ++ ys) ∙ ap (join_cells (One x)) (cell_of-append xs ys)
    ∙ sym (join_cells-assoc (One x) (cell_of xs) (cell_of ys))
    ∙ ap (λ c. join_cells c (cell_of ys)) (sym (cell_of-cons x xs))

-- an answer that was heard changes nothing
pub known_answer : (x : Body) (ys : List Body) → list_any (same_body x) ys ≡ true → join_cells (One x) (cell_of ys)
    ≡ cell_of ys
known_answer x [] e = cc
known_answer x (y ∷ ys) e =
    ap (join_cells (One x)) (cell_of-cons y ys) ∙ sym (join_cells-assoc (One x) (One y) (cell_of ys))
    ∙ by_same x y
    (λ xy q. ap (λ c. join_cells c (cell_of ys)) (ap (λ t. unless t x) xy ∙ ap One q))
    (λ xy. ap (λ c. join_cells c (cell_of ys)) (join_cells-comm (One x) (One y))
    ∙ join_cells-assoc (One y) (One x) (cell_of ys)
    ∙ ap (join_cells (One y)) (known_answer x ys (sym (ap (λ t. t || list_any (same_body x) ys) xy) ∙ e)))
    ∙ sym (cell_of-cons y ys)

known_answers : (xs ys : List Body)
    → ((b : Body) → list_any (same_body b) xs ≡ true → list_any (same_body b) ys ≡ true)
    → join_cells (cell_of xs) (cell_of ys) ≡ cell_of ys
known_answers [] ys within = refl
known_answers (x ∷ xs) ys within =
    ap (λ c. join_cells c (cell_of ys)) (cell_of-cons x xs) ∙ join_cells-assoc (One x) (cell_of xs) (cell_of ys)
    ∙ ap (join_cells (One x)) (known_answers xs ys (λ b h. within b (or_second (same_body b x) _ h)))
    ∙ known_answer x ys (within x (ap (λ t. t || list_any (same_body x) xs) (same_body_itself x)))

-- the same answers make the same cell, in any order and however often
pub same_cell : (xs ys : List Body) → ((b : Body) → list_any (same_body b) xs ≡ list_any (same_body b) ys) → cell_of xs
    ≡ cell_of ys
same_cell xs ys same =
    sym (known_answers ys xs (λ b h. same b ∙ h)) ∙ join_cells-comm (cell_of ys) (cell_of xs)
    ∙ known_answers xs ys (λ b h. sym (same b) ∙ h)

-- ---- states

-- the same answers make the same state
pub same_state : (cut : Cut) (xs ys : List Answer) → SameAnswers xs ys → joined cut xs ≡ joined cut ys
same_state cut xs ys same = at (range_with_len 0 (length cut))
  where
    at : (ks : List ℕ) → map (λ k. cell_of (said_of k xs)) ks ≡ map (λ k. cell_of (said_of k ys)) ks
    at [] = refl
    at (k ∷ ks) = λ i. same_cell (said_of k xs) (said_of k ys) (same k) i ∷ at ks i

pub said_of-append : (k : ℕ) (xs ys : List Answer) → said_of k (xs ++ ys) ≡ said_of k xs ++ said_of k ys
said_of-append k xs ys = ap (map (λ a. a.body)) (filter-append (λ a. a.k == k) xs ys)
    ∙ map-append (λ a. a.body) (filter (λ a. a.k == k) xs) (filter (λ a. a.k == k) ys)

-- the state of two sets together is the join of their states, cell by cell
pub joined-append : (cut : Cut) (xs ys : List Answer) → joined cut (xs ++ ys)
    ≡ map (λ p. join_cells p.0 p.1) (zip (joined cut xs) (joined cut ys))
joined-append cut xs ys = at (range_with_len 0 (length cut))
  where
    at : (ks : List ℕ) → map (λ k. cell_of (said_of k (xs ++ ys))) ks
        ≡ map (λ (p : Cell × Cell). join_cells p.0 p.1)
        (zip (map (λ k. cell_of (said_of k xs)) ks) (map (λ k. cell_of (said_of k ys)) ks))
    at [] = refl
    at (k ∷ ks) = λ i. (ap cell_of (said_of-append k xs ys) ∙ cell_of-append (said_of k xs) (said_of k ys)) i ∷ at ks i
