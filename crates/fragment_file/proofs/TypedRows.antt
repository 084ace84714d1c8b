-- The rows of a file are of its columns' types.
use Rattle.std.proofs.Common.{◌≡◌, ℕ, zero, suc, true, List, [], ◌∷◌, ◌++◌, get_or, map, Some, refl}
use Rattle.std.specs.Prelude.{flat_map, slice_get}
use Rattle.std.specs.List.{AllByRecursion, range_with_len}
use Rattle.std.proofs.lemmas.List.Elements.{recursion_from_All}
use Rattle.meaning.specs.declared.catalog.Column.{Column}
use Rattle.meaning.specs.declared.value.Value.TheVariants.{Null}
use Rattle.meaning.specs.Order.{Row}
use Rattle.meaning.specs.TableLaws.{column_types}
use Rattle.meaning.specs.Typing.{are_of_types, is_of_type}
use Rattle.meaning.proofs.Tests.{both}
use Rattle.meaning.proofs.Typed.{null_typed}
use Rattle.blocks.specs.Block.{Block, values_of}
use Rattle.fragment_file.specs.Fragment.{AreBlocks, AreGroups, AreTypedColumns, FragmentSpec, IsFragment, column_values, no_block}
use Rattle.fragment_file.specs.Rows.{row_in, rows_in}
use Rattle.fragment_file.specs.View.{rows_of}

-- ---- lists

pub all_front : {X : Type 0} (P : X → Type 0) (xs ys : List X) → AllByRecursion P (xs ++ ys) → AllByRecursion P xs
all_front P [] ys all = tt
all_front P (x ∷ xs) ys all = (all.0, all_front P xs ys all.1)

pub all_behind : {X : Type 0} (P : X → Type 0) (xs ys : List X) → AllByRecursion P (xs ++ ys) → AllByRecursion P ys
all_behind P [] ys all = all
all_behind P (x ∷ xs) ys all = all_behind P xs ys all.1

pub all_both : {X : Type 0} (P : X → Type 0) (xs ys : List X) → AllByRecursion P xs → AllByRecursion P ys → AllByRecursion P (xs ++ ys)
all_both P [] ys all more = more
all_both P (x ∷ xs) ys all more = (all.0, all_both P xs ys all.1 more)

pub all_or : {X : Type 0} (P : X → Type 0) (xs : List X) (i : ℕ) (d : X) → AllByRecursion P xs → P d → P (get_or xs i d)
all_or P [] i d all blank = blank
all_or P (x ∷ xs) zero d all blank = all.0
all_or P (x ∷ xs) (suc i) d all blank = all_or P xs i d all.1 blank

-- ---- row groups

-- blocks of the columns, with values of their types
abbrev pub AreTyped : List Column → List Block → Type 0
AreTyped cs group = (j : ℕ) (c : Column) → slice_get cs j ≡ Some c → AllByRecursion (λ v. is_of_type c.col_type v ≡ true) (values_of (get_or group j no_block))

pub row_typed : (cs : List Column) (n : ℕ) (bs : List Block) (i : ℕ) → AreBlocks cs n bs → AreTyped cs bs → are_of_types (map (λ c. c.col_type) cs) (row_in bs i) ≡ true
row_typed [] n [] i are typed = refl
row_typed [] n (b ∷ bs) i are typed = absurd are
row_typed (c ∷ cs) n [] i are typed = absurd are
row_typed (c ∷ cs) n (b ∷ bs) i are typed =
    both _ _ (all_or (λ v. is_of_type c.col_type v ≡ true) (values_of b) i Null (typed 0 c refl) (null_typed c.col_type)) (row_typed cs n bs i are.1 (λ j d at. typed (suc j) d at))

rows_typed : (cs : List Column) (n : ℕ) (bs : List Block) (is : List ℕ) → AreBlocks cs n bs → AreTyped cs bs → AllByRecursion (λ row. are_of_types (column_types cs) row ≡ true) (map (row_in bs) is)
rows_typed cs n bs [] are typed = tt
rows_typed cs n bs (i ∷ is) are typed = (row_typed cs n bs i are typed, rows_typed cs n bs is are typed)

groups_typed : (cs : List Column) (ns : List ℕ) (groups : List (List Block)) → AreGroups cs ns groups
    → ((j : ℕ) (c : Column) → slice_get cs j ≡ Some c → AllByRecursion (λ v. is_of_type c.col_type v ≡ true) (column_values j groups))
    → AllByRecursion (λ row. are_of_types (column_types cs) row ≡ true) (flat_map rows_in groups)
groups_typed cs [] [] are typed = tt
groups_typed cs [] (g ∷ gs) are typed = absurd are
groups_typed cs (m ∷ ms) [] are typed = absurd are
groups_typed cs (m ∷ ms) (g ∷ gs) are typed =
    all_both (λ (row : Row). are_of_types (column_types cs) row ≡ true) (rows_in g) (flat_map rows_in gs)
    (rows_typed cs m g (range_with_len 0 (rows_of g)) are.0 (λ j c at. all_front (λ v. is_of_type c.col_type v ≡ true) (values_of (get_or g j no_block)) (column_values j gs) (typed j c at)))
    (groups_typed cs ms gs are.1 (λ j c at. all_behind (λ v. is_of_type c.col_type v ≡ true) (values_of (get_or g j no_block)) (column_values j gs) (typed j c at)))

pub typed_rows_of : (f : FragmentSpec) → IsFragment f → AreTypedColumns f → AllByRecursion (λ row. are_of_types (column_types f.header.columns) row ≡ true) (flat_map rows_in f.groups)
typed_rows_of f is columns = groups_typed f.header.columns _ f.groups is.groups (λ j c at. recursion_from_All (λ v. is_of_type c.col_type v ≡ true) (column_values j f.groups) (columns j c at))
