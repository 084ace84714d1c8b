-- The kind of fewest bytes, and of equals the first.
use Rattle.std.proofs.Common.{◌≡◌, ℕ, ◌+◌, ◌-◌, ◌*◌, ◌<◌, ◌≤◌, ℤ, Bool, true, List, [], ◌∷◌, ◌++◌, length, map, take, get_or, refl, sym, ap, ◌∙◌, subst, arith}
use Rattle.std.specs.Prelude.{None, Some, min, nat_lt, nat_le}
use Rattle.std.specs.List.{sum_by}
use Rattle.std.specs.Ordering.{match_ordering}
use Rattle.std.specs.declared.cmp.Ordering.TheVariants.{Less, Equal, Greater}
use Rattle.std.proofs.lemmas.Bool.{lt-ltb, le-leb}
use Rattle.std.proofs.lemmas.List.{length-map, take_more, map-append}
use Rattle.std.proofs.lemmas.List.Sums.{sum_by-cons, sum_by-append}
use Rattle.meaning.specs.declared.value.ColType.{ColType}
use Rattle.meaning.specs.declared.value.ColType.TheVariants as of_type
use Rattle.meaning.specs.declared.value.Value.{Value}
use Rattle.meaning.specs.declared.value.Value.TheVariants.{Null, Int}
use Rattle.meaning.specs.Order.{bytes, value_cmp, inserted_once, ascending_set}
use Rattle.meaning.proofs.Tests.{both}
use Rattle.encodings.specs.declared.choice.Choice.{Choice}
use Rattle.blocks.specs.declared.kind.Kind.{Kind}
use Rattle.blocks.specs.declared.kind.Kind.TheVariants as kind
use Rattle.blocks.specs.Block.{mask_length}
use Rattle.encodings.specs.Choosing.{body_size, cells_for, is_chosen}
use Rattle.blocks.specs.Plain.{form_size}
use Rattle.encodings.specs.declared.dictionary.of_cells.Dictionary.{Dictionary}
use Rattle.blocks.specs.Dictionary.{AreEntries}
use Rattle.blocks.specs.Plain.{cells_at}
use Rattle.encodings.proofs.EncodedDictionaries.{entries_set}
use Rattle.encodings.specs.Choosing.{IsLeastOfOthers, IsLeastOfTwo}
use Rattle.encodings.specs.Choice.{IsDictionaryWithin, IsMadeOf, IsBestOf}

-- the first of the kinds whose size is least, of the sizes of Plain, Dict, Runs and Frame
abbrev IsLeastOfFour : Kind → ℕ → ℕ → ℕ → ℕ → Type 0
IsLeastOfFour kind.Plain p d r f = (p ≤ d) × (p ≤ r) × (p ≤ f)
IsLeastOfFour kind.Dict p d r f = (d < p) × (d ≤ r) × (d ≤ f)
IsLeastOfFour kind.Runs p d r f = (r < p) × (r < d) × (r ≤ f)
IsLeastOfFour kind.Frame p d r f = (f < p) × (f < d) × (f < r)

-- the same, where there is no Frame
abbrev IsLeastOfThree : Kind → ℕ → ℕ → ℕ → Type 0
IsLeastOfThree kind.Plain p d r = (p ≤ d) × (p ≤ r)
IsLeastOfThree kind.Dict p d r = (d < p) × (d ≤ r)
IsLeastOfThree kind.Runs p d r = (r < p) × (r < d)
IsLeastOfThree kind.Frame p d r = ⊥

le_sum : (m a b x y : ℕ) → x ≡ a → y ≡ b → a ≤ b → nat_le (m + x) (m + y) ≡ true
le_sum m a b x y p q h = le-leb (m + x) (m + y) (omega arith)

lt_sum : (m a b x y : ℕ) → x ≡ a → y ≡ b → a < b → nat_lt (m + x) (m + y) ≡ true
lt_sum m a b x y p q h = lt-ltb (m + x) (m + y) (omega arith)

le_self : (m x : ℕ) → nat_le (m + x) (m + x) ≡ true
le_self m x = le-leb (m + x) (m + x) (omega arith)

-- ---- integers

chosen_of_four : (nullable : Bool) (values : List Value) (k : Kind) (p d r f : ℕ) → body_size kind.Plain of_type.Int (cells_for of_type.Int values) ≡ p → body_size kind.Dict of_type.Int (cells_for of_type.Int values) ≡ d → body_size kind.Runs of_type.Int (cells_for of_type.Int values) ≡ r → body_size kind.Frame of_type.Int (cells_for of_type.Int values) ≡ f → IsLeastOfFour k p d r f → is_chosen of_type.Int nullable values k ≡ true
chosen_of_four nullable values kind.Plain p d r f ep ed er ef l =
    let m = mask_length nullable (length values) in
    both _ _ (le_self m _) (both _ _ (le_sum m p d _ _ ep ed l.0) (both _ _ (le_sum m p r _ _ ep er l.1) (both _ _ (le_sum m p f _ _ ep ef l.2) refl)))
chosen_of_four nullable values kind.Dict p d r f ep ed er ef l =
    let m = mask_length nullable (length values) in
    both _ _ (lt_sum m d p _ _ ed ep l.0) (both _ _ (le_self m _) (both _ _ (le_sum m d r _ _ ed er l.1) (both _ _ (le_sum m d f _ _ ed ef l.2) refl)))
chosen_of_four nullable values kind.Runs p d r f ep ed er ef l =
    let m = mask_length nullable (length values) in
    both _ _ (lt_sum m r p _ _ er ep l.0) (both _ _ (lt_sum m r d _ _ er ed l.1) (both _ _ (le_self m _) (both _ _ (le_sum m r f _ _ er ef l.2) refl)))
chosen_of_four nullable values kind.Frame p d r f ep ed er ef l =
    let m = mask_length nullable (length values) in
    both _ _ (lt_sum m f p _ _ ef ep l.0) (both _ _ (lt_sum m f d _ _ ef ed l.1) (both _ _ (lt_sum m f r _ _ ef er l.2) (both _ _ (le_self m _) refl)))

best_of_four : (cells : List Value) (choice : Choice) (k : Kind) (p r f : ℕ) → choice.kind ≡ k → body_size kind.Plain of_type.Int cells ≡ p → body_size kind.Runs of_type.Int cells ≡ r → body_size kind.Frame of_type.Int cells ≡ f → IsLeastOfFour k p (body_size kind.Dict of_type.Int cells) r f → IsMadeOf cells choice.kind choice.dictionary → IsBestOf of_type.Int cells choice
best_of_four cells choice k p r f ek ep er ef l made =
    record {
      best = λ nullable values e.
          subst (λ (known : Kind). is_chosen of_type.Int nullable values known ≡ true) (sym ek)
          (chosen_of_four nullable values k p _ r f (ap (body_size kind.Plain of_type.Int) e ∙ ep) (ap (body_size kind.Dict of_type.Int) e) (ap (body_size kind.Runs of_type.Int) e ∙ er) (ap (body_size kind.Frame of_type.Int) e ∙ ef) l);
      made = made;
    }

made_ahead : (cells : List Value) (choice : Choice) (d : Dictionary) → choice.kind ≡ kind.Dict → choice.dictionary ≡ Some d → AreEntries cells d.entry_rows.items d.codes.items → IsMadeOf cells choice.kind choice.dictionary
made_ahead cells choice d k e entries = subst (IsMadeOf cells choice.kind) (sym e) (k, entries)

nothing_ahead : (cells : List Value) (choice : Choice) → choice.dictionary ≡ None → IsMadeOf cells choice.kind choice.dictionary
nothing_ahead cells choice e = subst (IsMadeOf cells choice.kind) (sym e) tt

-- a dictionary that takes no more than the best of the other kinds
pub best_int_dictionary : (cells : List Value) (choice : Choice) (d : Dictionary) (p r f most : ℕ) → body_size kind.Plain of_type.Int cells ≡ p → body_size kind.Runs of_type.Int cells ≡ r → body_size kind.Frame of_type.Int cells ≡ f → 0 < p → most ≡ min (min (p - 1) r) f → IsDictionaryWithin cells (body_size kind.Dict of_type.Int cells) most (Some d) → choice.kind ≡ kind.Dict → choice.dictionary ≡ Some d → IsBestOf of_type.Int cells choice
best_int_dictionary cells choice d p r f most ep er ef some m w k e =
    let size = body_size kind.Dict of_type.Int cells in
    let within : size ≤ most = w.0 in
    best_of_four cells choice kind.Dict p r f k ep er ef (omega arith, omega arith, omega arith) (made_ahead cells choice d k e w.1)

-- the best of the other kinds, where each dictionary takes more
pub best_int_kind : (cells : List Value) (choice : Choice) (k : Kind) (p r f most : ℕ) → body_size kind.Plain of_type.Int cells ≡ p → body_size kind.Runs of_type.Int cells ≡ r → body_size kind.Frame of_type.Int cells ≡ f → 0 < p → most ≡ min (min (p - 1) r) f → IsDictionaryWithin cells (body_size kind.Dict of_type.Int cells) most None → IsLeastOfOthers k p r f → choice.kind ≡ k → choice.dictionary ≡ None → IsBestOf of_type.Int cells choice
best_int_kind cells choice k p r f most ep er ef some m w l ek e =
    best_of_four cells choice k p r f ek ep er ef (least k p (body_size kind.Dict of_type.Int cells) r f most some m w l) (nothing_ahead cells choice e)
  where
    least : (k : Kind) (p d r f most : ℕ) → 0 < p → most ≡ min (min (p - 1) r) f → most < d → IsLeastOfOthers k p r f → IsLeastOfFour k p d r f
    least kind.Plain p d r f most some m w l = (let a = l.0 in let b = l.1 in omega arith, l.0, l.1)
    least kind.Dict p d r f most some m w l = absurd l
    least kind.Runs p d r f most some m w l = (l.0, let a = l.0 in let b = l.1 in omega arith, l.1)
    least kind.Frame p d r f most some m w l = (l.0, let a = l.0 in let b = l.1 in omega arith, l.1)

-- ---- texts

chosen_of_three : (nullable : Bool) (values : List Value) (k : Kind) (p d r : ℕ) → body_size kind.Plain of_type.Text (cells_for of_type.Text values) ≡ p → body_size kind.Dict of_type.Text (cells_for of_type.Text values) ≡ d → body_size kind.Runs of_type.Text (cells_for of_type.Text values) ≡ r → IsLeastOfThree k p d r → is_chosen of_type.Text nullable values k ≡ true
chosen_of_three nullable values kind.Plain p d r ep ed er l =
    let m = mask_length nullable (length values) in
    both _ _ (le_self m _) (both _ _ (le_sum m p d _ _ ep ed l.0) (both _ _ (le_sum m p r _ _ ep er l.1) refl))
chosen_of_three nullable values kind.Dict p d r ep ed er l =
    let m = mask_length nullable (length values) in
    both _ _ (lt_sum m d p _ _ ed ep l.0) (both _ _ (le_self m _) (both _ _ (le_sum m d r _ _ ed er l.1) refl))
chosen_of_three nullable values kind.Runs p d r ep ed er l =
    let m = mask_length nullable (length values) in
    both _ _ (lt_sum m r p _ _ er ep l.0) (both _ _ (lt_sum m r d _ _ er ed l.1) (both _ _ (le_self m _) refl))
chosen_of_three nullable values kind.Frame p d r ep ed er l = absurd l

best_of_three : (cells : List Value) (choice : Choice) (k : Kind) (p r : ℕ) → choice.kind ≡ k → body_size kind.Plain of_type.Text cells ≡ p → body_size kind.Runs of_type.Text cells ≡ r → IsLeastOfThree k p (body_size kind.Dict of_type.Text cells) r → IsMadeOf cells choice.kind choice.dictionary → IsBestOf of_type.Text cells choice
best_of_three cells choice k p r ek ep er l made =
    record {
      best = λ nullable values e.
          subst (λ (known : Kind). is_chosen of_type.Text nullable values known ≡ true) (sym ek)
          (chosen_of_three nullable values k p _ r (ap (body_size kind.Plain of_type.Text) e ∙ ep) (ap (body_size kind.Dict of_type.Text) e) (ap (body_size kind.Runs of_type.Text) e ∙ er) l);
      made = made;
    }

pub best_text_dictionary : (cells : List Value) (choice : Choice) (d : Dictionary) (p r most : ℕ) → body_size kind.Plain of_type.Text cells ≡ p → body_size kind.Runs of_type.Text cells ≡ r → 0 < p → most ≡ min (p - 1) r → IsDictionaryWithin cells (body_size kind.Dict of_type.Text cells) most (Some d) → choice.kind ≡ kind.Dict → choice.dictionary ≡ Some d → IsBestOf of_type.Text cells choice
best_text_dictionary cells choice d p r most ep er some m w k e =
    let size = body_size kind.Dict of_type.Text cells in
    let within : size ≤ most = w.0 in
    best_of_three cells choice kind.Dict p r k ep er (omega arith, omega arith) (made_ahead cells choice d k e w.1)

pub best_text_kind : (cells : List Value) (choice : Choice) (k : Kind) (p r most : ℕ) → body_size kind.Plain of_type.Text cells ≡ p → body_size kind.Runs of_type.Text cells ≡ r → 0 < p → most ≡ min (p - 1) r → IsDictionaryWithin cells (body_size kind.Dict of_type.Text cells) most None → IsLeastOfTwo k p r → choice.kind ≡ k → choice.dictionary ≡ None → IsBestOf of_type.Text cells choice
best_text_kind cells choice k p r most ep er some m w l ek e =
    best_of_three cells choice k p r ek ep er (least k p (body_size kind.Dict of_type.Text cells) r most some m w l) (nothing_ahead cells choice e)
  where
    least : (k : Kind) (p d r most : ℕ) → 0 < p → most ≡ min (p - 1) r → most < d → IsLeastOfTwo k p r → IsLeastOfThree k p d r
    least kind.Plain p d r most some m w l = (omega arith, l)
    least kind.Dict p d r most some m w l = absurd l
    least kind.Runs p d r most some m w l = (l, omega arith)
    least kind.Frame p d r most some m w l = absurd l

-- ---- sizes

some_inserted : (v : Value) (vs : List Value) → 1 ≤ length (inserted_once value_cmp v vs)
some_inserted v [] = omega arith
some_inserted v (w ∷ vs) =
    elim (value_cmp v w) as (λ o. 1 ≤ length (match_ordering o (v ∷ w ∷ vs) (w ∷ vs) (w ∷ inserted_once value_cmp v vs))) [
      | Less ↦ omega arith
      | Equal ↦ omega arith
      | Greater ↦ omega arith
    ]

-- a dictionary of integers has at least one entry
pub least_dictionary : (cells : List Value) → 1 ≤ length cells → 12 + 2 * length cells ≤ body_size kind.Dict of_type.Int cells
least_dictionary [] h = absurd (omega arith)
least_dictionary (v ∷ cells) h = let some = some_inserted v (ascending_set value_cmp cells) in omega (arith, some)

pub least_text_dictionary : (cells : List Value) → 1 ≤ length cells → 8 + 2 * length cells ≤ body_size kind.Dict of_type.Text cells
least_text_dictionary [] h = absurd (omega arith)
least_text_dictionary (v ∷ cells) h =
    let f : Value → ℕ = λ u. 4 + length (bytes u) in
    let some = four (inserted_once value_cmp v (ascending_set value_cmp cells)) (some_inserted v (ascending_set value_cmp cells)) in
    omega (arith, some)
  where
    four : (vs : List Value) → 1 ≤ length vs → 4 ≤ sum_by (λ u. 4 + length (bytes u)) vs
    four [] h = absurd (omega arith)
    four (v ∷ vs) h = let e = sum_by-cons (λ u. 4 + length (bytes u)) v vs in omega (arith, e)

pub dictionary_size : (col_type : ColType) (cells : List Value) (entry_rows codes : List ℕ) (form rows : ℕ) → AreEntries cells entry_rows codes → form ≡ form_size col_type (cells_at cells entry_rows) → rows ≡ length cells → 4 + form + 2 * rows ≡ body_size kind.Dict col_type cells
dictionary_size col_type cells entry_rows codes form rows d p q =
    rw (p, q) (ap (λ es. 4 + form_size col_type es + 2 * length cells) (sym (entries_set cells entry_rows codes d)))

-- the size of the texts of some rows, one row further
pub text_size_more : (cells : List Value) (entry_rows : List ℕ) (i total : ℕ) (t : List ℕ) → i < length entry_rows → bytes (get_or cells (get_or entry_rows i 0) Null) ≡ t → total ≡ form_size of_type.Text (cells_at cells (take i entry_rows)) → total + (4 + length t) ≡ form_size of_type.Text (cells_at cells (take (i + 1) entry_rows))
text_size_more cells entry_rows i total t h e n =
    let at : ℕ → Value = λ row. get_or cells row Null in
    let f : Value → ℕ = λ u. 4 + length (bytes u) in
    let more : cells_at cells (take (i + 1) entry_rows) ≡ cells_at cells (take i entry_rows) ++ at (get_or entry_rows i 0) ∷ [] = ap (map at) (take_more entry_rows i 0 h) ∙ map-append at (take i entry_rows) (get_or entry_rows i 0 ∷ []) in
    let one : sum_by f (at (get_or entry_rows i 0) ∷ []) ≡ 4 + length t = sum_by-cons f (at (get_or entry_rows i 0)) [] ∙ (ap (λ u. 4 + length u + 0) e ∙ omega arith) in
    rw (n, more) (sym (sum_by-append f (cells_at cells (take i entry_rows)) (at (get_or entry_rows i 0) ∷ []) ∙ ap (λ k. sum_by f (cells_at cells (take i entry_rows)) + k) one))

pub ints_form : (ns : List ℤ) (entry_rows : List ℕ) → 8 * length entry_rows ≡ form_size of_type.Int (cells_at (map Int ns) entry_rows)
ints_form ns entry_rows = ap (λ n. 8 * n) (sym (length-map entry_rows (λ row. get_or (map Int ns) row Null)))
