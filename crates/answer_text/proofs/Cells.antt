-- Cells that are shown one after the other.
use Rattle.std.proofs.Common.{◌≡◌, ◌≢◌, ℕ, ◌+◌, Bool, true, false, List, [], ◌∷◌, ◌++◌, length, codes, arith, refl, sym, ap, ◌∙◌, append_assoc, append-nil}
use Rattle.std.specs.Prelude.{OnOk, Result, Ok, Err, cond, filter, flat_map, map}
use Rattle.std.specs.List.{enumerate_from}
use Rattle.std.proofs.lemmas.List.{length-append, map-append}
use Rattle.std.proofs.lemmas.List.Elements.{filter-append}
use Rattle.meaning.specs.Gather.{fragments_where, is_conflict, is_nothing, is_one}
use Rattle.meaning.specs.Said.{Body, Cell}
use Rattle.meaning.specs.declared.answer.Body.TheVariants.{Groups, Fault}
use Rattle.meaning.specs.declared.answer.Cell.TheVariants.{Nothing, One, Conflict}
use Rattle.answer_fields.specs.Shape.{Shape}
use Rattle.answer_text.specs.Ranges.{ranges_line}
use Rattle.answer_text.specs.StateTexts.{AreListed, IsShown, all_held_text, fragments_text, held_text}
use Rattle.answer_text.specs.Texts.{body_text, where_groups}
use Rattle.answer_text.specs.declared.detail.Detail.{Detail}
use Rattle.answer_text.specs.declared.detail.Detail.TheVariants as of_detail
use Rattle.answer_text.specs.declared.states.Fragments.{Fragments}
use Rattle.answer_text.proofs.Lists.{groups_more}

-- ---- a cell more

pub numbered_more : {X : Type 0} (n : ℕ) (xs : List X) (x : X) (k : ℕ) → k ≡ n + length xs → enumerate_from n (xs ++ x ∷ []) ≡ enumerate_from n xs ++ (k, x) ∷ []
numbered_more {X} n [] x k is = let here : n ≡ k = grind (arith, is) in ap (λ (m : ℕ). (m, x) ∷ []) here
numbered_more {X} n (y ∷ ys) x k is = ap (λ rest. (n, y) ∷ rest) (numbered_more (n + 1) ys x k (grind (arith, is)))

module _ (cells : List Cell) (c : Cell) (k : ℕ) (is : length cells ≡ k) where
  all_numbered : enumerate_from 0 (cells ++ c ∷ []) ≡ enumerate_from 0 cells ++ (k, c) ∷ []
  all_numbered = numbered_more 0 cells c k (grind (arith, is))

  where_more : (test : Cell → Bool) → fragments_where test (cells ++ c ∷ []) ≡ fragments_where test cells ++ map {A = ℕ × Cell} (λ p. p.0) (cond (test c) ((k, c) ∷ []) [])
  where_more test =
      ap (λ ps. map {A = ℕ × Cell} (λ p. p.0) (filter (λ p. test p.1) ps)) all_numbered
      ∙ ap (map {A = ℕ × Cell} (λ p. p.0)) (filter-append (λ (p : ℕ × Cell). test p.1) (enumerate_from 0 cells) ((k, c) ∷ []))
      ∙ map-append {A = ℕ × Cell} (λ p. p.0) (filter (λ p. test p.1) (enumerate_from 0 cells)) (filter (λ p. test p.1) ((k, c) ∷ []))

  passes : (test : Cell → Bool) (items new : List ℕ) → test c ≡ true → items ≡ fragments_where test cells → new ≡ items ++ k ∷ [] → new ≡ fragments_where test (cells ++ c ∷ [])
  passes test items new true_of so_far more =
      more ∙ ap (λ l. l ++ k ∷ []) so_far ∙ sym (where_more test ∙ ap (λ b. fragments_where test cells ++ map {A = ℕ × Cell} (λ p. p.0) (cond b ((k, c) ∷ []) [])) true_of)

  fails : (test : Cell → Bool) (items : List ℕ) → test c ≡ false → items ≡ fragments_where test cells → items ≡ fragments_where test (cells ++ c ∷ [])
  fails test items false_of so_far =
      so_far ∙ sym (where_more test ∙ ap (λ b. fragments_where test cells ++ map {A = ℕ × Cell} (λ p. p.0) (cond b ((k, c) ∷ []) [])) false_of ∙ append-nil (fragments_where test cells))

  pub held_more : (detail : Detail) (shape : Shape) (old before after : List ℕ) → before ≡ old ++ where_groups detail (all_held_text shape cells) → after ≡ before ++ where_groups detail (held_text shape k c)
      → after ≡ old ++ where_groups detail (all_held_text shape (cells ++ c ∷ []))
  unfolding all_held_text
  held_more detail shape old before after so_far more =
      groups_more detail (λ (p : ℕ × Cell). held_text shape p.0 p.1) (enumerate_from 0 cells) (k, c) old before after so_far more
      ∙ ap (λ ps. old ++ where_groups detail (flat_map (λ (p : ℕ × Cell). held_text shape p.0 p.1) ps)) (sym all_numbered)

-- ---- what is held for a fragment

nothing_asked : (detail : Detail) → where_groups detail [] ≡ []
nothing_asked of_detail.Nothing = refl
nothing_asked of_detail.Count = refl
nothing_asked of_detail.Groups = refl

no_text : (detail : Detail) (old : List ℕ) → old ≡ old ++ where_groups detail []
no_text detail old = sym (ap (λ t. old ++ t) (nothing_asked detail) ∙ append-nil old)

module _ (detail : Detail) (shape : Shape) (k : ℕ) (old new : Fragments) where
  pub missing_shown : (text : List ℕ) → new.held.items ≡ old.held.items → new.missing.items ≡ old.missing.items ++ k ∷ [] → new.in_conflict.items ≡ old.in_conflict.items → IsShown detail shape k Nothing old new text text
  missing_shown text held more conflicts = record {
    text = no_text detail text;
    listed = λ cells long are. record {
      held = held ∙ fails cells Nothing k long is_one old.held.items refl are.held;
      missing = passes cells Nothing k long is_nothing old.missing.items new.missing.items refl are.missing more;
      in_conflict = conflicts ∙ fails cells Nothing k long is_conflict old.in_conflict.items refl are.in_conflict;
    };
  }

  pub conflict_shown : (text : List ℕ) → new.held.items ≡ old.held.items → new.missing.items ≡ old.missing.items → new.in_conflict.items ≡ old.in_conflict.items ++ k ∷ [] → IsShown detail shape k Conflict old new text text
  conflict_shown text held missing more = record {
    text = no_text detail text;
    listed = λ cells long are. record {
      held = held ∙ fails cells Conflict k long is_one old.held.items refl are.held;
      missing = missing ∙ fails cells Conflict k long is_nothing old.missing.items refl are.missing;
      in_conflict = passes cells Conflict k long is_conflict old.in_conflict.items new.in_conflict.items refl are.in_conflict more;
    };
  }

  pub answer_shown : (body : Body) (before after : List ℕ) → after ≡ before ++ where_groups detail (held_text shape k (One body))
      → new.held.items ≡ old.held.items ++ k ∷ [] → new.missing.items ≡ old.missing.items → new.in_conflict.items ≡ old.in_conflict.items → IsShown detail shape k (One body) old new before after
  answer_shown body before after put more missing conflicts = record {
    text = put;
    listed = λ cells long are. record {
      held = passes cells (One body) k long is_one old.held.items new.held.items refl are.held more;
      missing = missing ∙ fails cells (One body) k long is_nothing old.missing.items refl are.missing;
      in_conflict = conflicts ∙ fails cells (One body) k long is_conflict old.in_conflict.items refl are.in_conflict;
    };
  }

-- nothing is shown of a body where groups aren't asked for
pub unasked : (detail : Detail) (shape : Shape) (k : ℕ) (body : Body) → detail ≢ of_detail.Groups → where_groups detail (held_text shape k (One body)) ≡ body_text of_detail.Nothing shape body
unasked of_detail.Nothing shape k (Fault f) other = refl
unasked of_detail.Nothing shape k (Groups gs) other = refl
unasked of_detail.Count shape k (Fault f) other = refl
unasked of_detail.Count shape k (Groups gs) other = refl
unasked of_detail.Groups shape k body other = absurd (other refl)

-- ---- which fragments there are

joined : (old a b c after_a after_b after_c : List ℕ) → after_a ≡ old ++ a → after_b ≡ after_a ++ b → after_c ≡ after_b ++ c → after_c ≡ old ++ (a ++ b ++ c)
joined old a b c after_a after_b after_c first second third =
    third ∙ ap (λ t. t ++ c) (second ∙ ap (λ t. t ++ b) first ∙ append_assoc old a b) ∙ append_assoc old (a ++ b) c

listed_text : (f : Fragments) (cells : List Cell) → AreListed f cells → ranges_line (codes "in") f.held.items ++ ranges_line (codes "missing") f.missing.items ++ ranges_line (codes "in conflict") f.in_conflict.items ≡ fragments_text cells
unfolding fragments_text
listed_text f cells are = λ i. ranges_line (codes "in") (are.held i) ++ ranges_line (codes "missing") (are.missing i) ++ ranges_line (codes "in conflict") (are.in_conflict i)

pub all_put : {E : Type 0} (f : Fragments) (r : Result (Unit {0}) E) (old after_held after_missing new held missing conflicts : List ℕ) → held ≡ f.held.items → missing ≡ f.missing.items → conflicts ≡ f.in_conflict.items
    → after_held ≡ old ++ ranges_line (codes "in") held → after_missing ≡ after_held ++ ranges_line (codes "missing") missing → OnOk r (new ≡ after_missing ++ ranges_line (codes "in conflict") conflicts)
    → OnOk r ((cells : List Cell) → AreListed f cells → new ≡ old ++ fragments_text cells)
all_put f (Ok done) old after_held after_missing new held missing conflicts is_held is_missing is_conflicts first second third = λ cells are.
    joined old (ranges_line (codes "in") f.held.items) (ranges_line (codes "missing") f.missing.items) (ranges_line (codes "in conflict") f.in_conflict.items) after_held after_missing new
    (first ∙ ap (λ l. old ++ ranges_line (codes "in") l) is_held) (second ∙ ap (λ l. after_held ++ ranges_line (codes "missing") l) is_missing) (third ∙ ap (λ l. after_missing ++ ranges_line (codes "in conflict") l) is_conflicts)
    ∙ ap (λ t. old ++ t) (listed_text f cells are)
all_put f (Err e) old after_held after_missing new held missing conflicts is_held is_missing is_conflicts first second third = tt

pub none_listed : (shape : Shape) (detail : Detail) (old : List ℕ) → old ≡ old ++ where_groups detail (all_held_text shape [])
unfolding all_held_text
none_listed shape detail old = no_text detail old

pub one_longer : {X : Type 0} (xs : List X) (x : X) (k : ℕ) → length xs ≡ k → length (xs ++ x ∷ []) ≡ k + 1
one_longer xs x k is = length-append xs (x ∷ []) ∙ ap (λ n. n + 1) is
