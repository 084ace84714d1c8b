-- A payload of a chosen kind has fewer than 2 ^ 32 bytes: it is no longer than that of the values one by one.
use Rattle.std.proofs.Common.{◌≡◌, ℕ, zero, suc, ◌+◌, ◌-◌, ◌*◌, ◌^◌, ◌<◌, ◌≤◌, Bool, true, false, List, [], ◌∷◌, length, take, drop, arith}
use Rattle.std.specs.List.{list_all, AllByRecursion}
use Rattle.std.specs.Str.{is_utf8}
use Rattle.std.specs.Prelude.{nat_le}
use Rattle.std.proofs.lemmas.Bool.{ltb-true, leb-true, false≢true, and_parts}
use Rattle.std.proofs.lemmas.List.{length-map}
use Rattle.std.proofs.lemmas.List.Sums.{sum_by-le}
use Rattle.std.proofs.lemmas.List.Elements.{All-from_recursion}
use Rattle.meaning.specs.declared.value.ColType.{ColType}
use Rattle.meaning.specs.declared.value.ColType.TheVariants as of_type
use Rattle.meaning.specs.declared.value.Value.{Value}
use Rattle.meaning.specs.declared.value.Value.TheVariants.{Null, Int, Text}
use Rattle.meaning.specs.Order.{bytes}
use Rattle.meaning.specs.Limits.{max_text_bytes, row_group_rows}
use Rattle.columns.specs.Column.{ColumnSpec, IsColumn, is_of, is_text}
use Rattle.blocks.specs.declared.kind.Kind.{Kind}
use Rattle.blocks.specs.declared.kind.Kind.TheVariants as kind
use Rattle.blocks.specs.Block.{mask_length}
use Rattle.encodings.specs.Choosing.{between, cell_of, cells_for, is_chosen, is_no_worse, payload_size}
use Rattle.blocks.specs.Plain.{form_size}
use Rattle.blocks.proofs.ReadBodies.{all-take, all-drop}

le_from_lt : (a b : ℕ) → a < b → a ≤ b
le_from_lt a b h = omega arith

no_longer : (t : ColType) (nullable : Bool) (values : List Value) (k : Kind) → is_no_worse t nullable values k kind.Plain ≡ true
    → payload_size k t nullable values ≤ payload_size kind.Plain t nullable values
no_longer t nullable values kind.Plain h = leb-true _ _ h
no_longer t nullable values kind.Dict h = le_from_lt _ _ (ltb-true _ _ h)
no_longer t nullable values kind.Runs h = le_from_lt _ _ (ltb-true _ _ h)
no_longer t nullable values kind.Frame h = le_from_lt _ _ (ltb-true _ _ h)

no_worse : (t : ColType) (nullable : Bool) (values : List Value) (k : Kind) → is_chosen t nullable values k ≡ true → is_no_worse t nullable values k kind.Plain ≡ true
no_worse of_type.Int nullable values k h = (and_parts _ _ (and_parts _ _ h).1).0
no_worse of_type.Text nullable values k h = (and_parts _ _ (and_parts _ _ h).1).0

short_mask : (nullable : Bool) (n : ℕ) → n ≤ row_group_rows → mask_length nullable n ≤ 1024
short_mask true n h = omega arith
short_mask false n h = omega arith

short_texts : (nullable : Bool) (vs : List Value) → list_all (is_of of_type.Text nullable) vs ≡ true
    → AllByRecursion (λ v. 4 + length (bytes v) ≤ 65539) (cells_for of_type.Text vs)
short_texts nullable [] h = tt
short_texts nullable (Null ∷ vs) h = (omega arith, short_texts nullable vs (and_parts _ _ h).1)
short_texts nullable (Int n ∷ vs) h = absurd (false≢true h)
short_texts nullable (Text t ∷ vs) h =
    let is : is_text t ≡ true = (and_parts (is_text t) _ h).0 in
    let short : length t ≤ max_text_bytes = leb-true _ _ (and_parts (is_utf8 t) (nat_le (length t) max_text_bytes) is).1 in
    (omega arith, short_texts nullable vs (and_parts (is_text t) _ h).1)

short_form : (t : ColType) (nullable : Bool) (vs : List Value) → list_all (is_of t nullable) vs ≡ true → form_size t (cells_for t vs) ≤ 65539 * length vs
short_form of_type.Int nullable vs h =
    let e : length (cells_for of_type.Int vs) ≡ length vs = length-map vs (cell_of of_type.Int) in
    omega arith
short_form of_type.Text nullable vs h =
    let e : length (cells_for of_type.Text vs) ≡ length vs = length-map vs (cell_of of_type.Text) in
    let s = sum_by-le (λ (v : Value). 4 + length (bytes v)) 65539 (cells_for of_type.Text vs) (All-from_recursion (λ v. 4 + length (bytes v) ≤ 65539) (cells_for of_type.Text vs) (short_texts nullable vs h)) in
    omega arith

at_most : {X : Type 0} (n : ℕ) (xs : List X) → length (take n xs) ≤ n
at_most zero xs = omega arith
at_most (suc n) [] = omega arith
at_most (suc n) (x ∷ xs) = let rest : length (take n xs) ≤ n = at_most n xs in omega arith

small : (s a m f n : ℕ) → s ≡ a → a ≤ m + f → m ≤ 1024 → f ≤ 65539 * n → n ≤ row_group_rows → s < 2 ^ 32
small s a m f n p q r t u = omega arith

few : (l n : ℕ) → l ≤ n → n ≤ row_group_rows → l ≤ row_group_rows
few l n p q = omega arith

pub short_payload : (c : ColumnSpec) (k : Kind) (from to size : ℕ) → IsColumn c → to - from ≤ row_group_rows → is_chosen c.col_type c.nullable (between from to c) k ≡ true
    → size ≡ payload_size k c.col_type c.nullable (between from to c) → size < 2 ^ 32
short_payload c k from to size sound short chosen is =
    let values = between from to c in
    let n : length values ≤ row_group_rows = few (length values) (to - from) (at_most (to - from) (drop from c.values)) short in
    let fit = all-take (is_of c.col_type c.nullable) (to - from) (drop from c.values) (all-drop (is_of c.col_type c.nullable) from c.values sound) in
    small size (payload_size k c.col_type c.nullable values) (mask_length c.nullable (length values)) (form_size c.col_type (cells_for c.col_type values)) (length values) is
    (no_longer c.col_type c.nullable values k (no_worse c.col_type c.nullable values k chosen)) (short_mask c.nullable (length values) n)
    (short_form c.col_type c.nullable values fit) n
