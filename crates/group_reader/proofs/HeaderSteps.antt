-- The fields of a header, one behind the other.
use Rattle.std.specs.Prelude.{◌≡◌, ℕ, nat_le, Bool, false, not, ◌&&◌, List, [], ◌∷◌, ◌++◌, length, Option, Result, Ok, Err, IfOk}
use Rattle.std.proofs.Common.{refl, sym, ap, subst, ◌∙◌, append_assoc, arith}
use Rattle.std.proofs.lemmas.List.{append-nil}
use Rattle.std.proofs.lemmas.List.Elements.{All-from_recursion}
use Rattle.meaning.specs.Catalog.{IsName, is_name}
use Rattle.meaning.specs.Limits.{max_columns, max_name_bytes, max_rows}
use Rattle.meaning.specs.Wanting.{GivesIfMemory}
use Rattle.meaning.specs.declared.value.ColType.{ColType}
use Rattle.meaning.specs.declared.catalog.Column.{Column}
use Rattle.wire.specs.Reading.{◌>>=◌, Read, bytes_at, number_at}
use Rattle.fragment_file.specs.declared.fault.FileFault.{FileFault}
use Rattle.fragment_file.specs.declared.fault.FileFault.TheVariants.{Memory}
use Rattle.fragment_file.specs.declared.header.Header.{Header}
use Rattle.fragment_file.specs.declared.header.Slice.{Slice}
use Rattle.fragment_file.specs.Fault.{from_wire}
use Rattle.fragment_file.specs.FragmentReading.{column_at, columns_at, flag_of, formed, header_at, is_named, name_at, type_of, within}
use Rattle.fragment_file.proofs.HeaderLaws.{AreNew, apart_from_new, names_from_new}
use Rattle.group_reader.specs.Fields.{AreColumnsOf, IsNewColumn, counted_at, flag_at, slice_at, type_at}
use Rattle.group_reader.specs.declared.source.Source.{Source}
use Rattle.group_reader.specs.Source.{Takes}
use Rattle.group_reader.proofs.Telling.{Reached, finishes}

-- ---- steps in another order

pub in_order : {A B C : Type 0} (r : Result A FileFault) (f : A → Result B FileFault) (g : B → Result C FileFault) → ((r >>= f) >>= g) ≡ (r >>= (λ x. f x >>= g))
in_order (Ok x) f g = refl
in_order (Err e) f g = refl

pub under : {A B : Type 0} (r : Result A FileFault) (f g : A → Result B FileFault) → ((x : A) → f x ≡ g x) → (r >>= f) ≡ (r >>= g)
under (Ok x) f g same = same x
under (Err e) f g same = refl

-- ---- names

abbrev pub name_read : List ℕ × List ℕ → Read FileFault (List ℕ)
name_read name = formed (is_name name.0) name

abbrev pub name_kept : ℕ × List ℕ → Read FileFault (List ℕ)
name_kept n = from_wire (bytes_at n.0 n.1) >>= name_read

abbrev pub name_count : ℕ × List ℕ → Read FileFault (List ℕ)
name_count n = within (nat_le 1 n.0 && nat_le n.0 max_name_bytes) n >>= name_kept

pub name_start : (bytes : List ℕ) → name_at bytes ≡ (from_wire (number_at 2 bytes) >>= name_count)
unfolding name_at
name_start bytes = refl

abbrev done : {Y : Type 0} → Y → Result Y FileFault
done y = Ok y

done_is : {Y : Type 0} (x y : Y) → done x ≡ done y → x ≡ y
done_is x y e = cc

-- what was made of all that was read
pub given_told : {R X Y : Type 0} {known : R → Option (List ℕ)} {old now : Source R} {part left : List ℕ → Read FileFault Y} (view : X → Y) (r : Result X FileFault) (y : Y)
    → Reached known old now part left → ((rest : List ℕ) → left rest ≡ Ok (y, rest)) → GivesIfMemory Memory view r (Ok y) → Takes known old now view r part
given_told view (Ok x) y reached is told = finishes (view x) reached (λ rest. is rest ∙ ap (λ (z : _). Ok (z, rest)) (done_is y (view x) told))
given_told view (Err e) y reached is told = λ no_memory no_device. absurd (ok_not y e (told no_memory))
  where
    ok_not : {Z : Type 0} (z : Z) (d : FileFault) → done z ≡ Err d → ⊥
    ok_not z d same = cc

pub given_name : (r : Result (List ℕ) FileFault) (word : List ℕ) → IsName word → GivesIfMemory Memory (λ name. name) r (Ok word) → IfOk r IsName
given_name (Ok name) word is told = subst IsName (done_is word name told) is
given_name (Err e) word is told = tt

-- ---- types and flags

abbrev pub type_behind : ℕ × List ℕ → Read FileFault ColType
type_behind t = type_of t.0 >>= (λ col_type. Ok (col_type, t.1))

abbrev pub flag_behind : ℕ × List ℕ → Read FileFault Bool
flag_behind f = flag_of f.0 >>= (λ flag. Ok (flag, f.1))

in_two : {A Y Z : Type 0} (r : Read FileFault A) (g : A → Result Y FileFault) (F G : Y × List ℕ → Result Z FileFault) → ((p : Y × List ℕ) → F p ≡ G p)
    → ((r >>= (λ t. g t.0 >>= (λ y. Ok (y, t.1)))) >>= F) ≡ (r >>= (λ t. g t.0 >>= (λ y. G (y, t.1))))
in_two r g F G same =
    in_order r (λ t. g t.0 >>= (λ y. Ok (y, t.1))) F
    ∙ under r (λ t. (g t.0 >>= (λ y. Ok (y, t.1))) >>= F) (λ t. g t.0 >>= (λ y. G (y, t.1)))
    (λ t. in_order (g t.0) (λ y. Ok (y, t.1)) F ∙ under (g t.0) (λ y. F (y, t.1)) (λ y. G (y, t.1)) (λ y. same (y, t.1)))

-- ---- columns

abbrev pub column_flag : List ℕ → ColType → Bool × List ℕ → Read FileFault Column
column_flag name col_type flag = Ok (record { name = name; col_type = col_type; nullable = flag.0 }, flag.1)

abbrev pub column_type : List ℕ → ColType × List ℕ → Read FileFault Column
column_type name t = flag_at t.1 >>= column_flag name t.0

abbrev pub column_new : List ℕ × List ℕ → Read FileFault Column
column_new name = type_at name.1 >>= column_type name.0

abbrev pub column_name : List Column → List ℕ × List ℕ → Read FileFault Column
column_name earlier name = formed (not (is_named name.0 earlier)) name >>= column_new

abbrev flag_parts : List ℕ → ColType × List ℕ → Read FileFault Column
flag_parts name t = from_wire (number_at 1 t.1) >>= (λ f. flag_of f.0 >>= (λ flag. column_flag name t.0 (flag, f.1)))

abbrev type_parts : List ℕ × List ℕ → Read FileFault Column
type_parts name = from_wire (number_at 1 name.1) >>= (λ t. type_of t.0 >>= (λ col_type. flag_parts name.0 (col_type, t.1)))

column_parts : (name : List ℕ × List ℕ) → column_new name ≡ type_parts name
column_parts name =
    in_two (from_wire (number_at 1 name.1)) type_of (column_type name.0) (flag_parts name.0)
    (λ t. in_two (from_wire (number_at 1 t.1)) flag_of (column_flag name.0 t.0) (column_flag name.0 t.0) (λ f. refl))

pub column_start : (earlier : List Column) (bytes : List ℕ) → column_at earlier bytes ≡ (name_at bytes >>= column_name earlier)
unfolding column_at
column_start earlier bytes =
    under (name_at bytes) (λ name. formed (not (is_named name.0 earlier)) name >>= type_parts) (column_name earlier)
    (λ name. under (formed (not (is_named name.0 earlier)) name) type_parts column_new (λ kept. sym (column_parts kept)))

new_push : (earlier more : List Column) (c : Column) → AreNew earlier more → IsNewColumn (earlier ++ more) c → AreNew earlier (more ++ c ∷ [])
new_push earlier [] c are is = (subst (λ (cs : List Column). IsName c.name × (is_named c.name cs ≡ false)) (append-nil earlier) (is.name, is.new), tt)
new_push earlier (d ∷ more) c are is =
    (are.0, new_push (earlier ++ d ∷ []) more c are.1 (subst (λ (cs : List Column). IsNewColumn cs c) (sym (append_assoc earlier (d ∷ []) more)) is))

pub new_more : (more : List Column) (c : Column) → AreNew [] more → IsNewColumn more c → AreNew [] (more ++ c ∷ [])
new_more more c are is = new_push [] more c are is

pub new_columns : (n : ℕ) (cs : List Column) → length cs ≡ n → AreNew [] cs → AreColumnsOf n cs
new_columns n cs long are = record {
  count = long;
  columns = All-from_recursion (λ c. IsName c.name) cs (names_from_new [] cs are);
  distinct = apart_from_new [] cs are (λ i j d before within. absurd (omega arith));
}

-- ---- how many columns

abbrev pub counted_kept : ℕ × List ℕ → Read FileFault (List Column)
counted_kept n = columns_at n.0 [] n.1

abbrev pub counted_count : ℕ × List ℕ → Read FileFault (List Column)
counted_count n = within (nat_le 1 n.0 && nat_le n.0 max_columns) n >>= counted_kept

-- ---- slices

abbrev pub slice_rows : ℕ → ℕ → ℕ × List ℕ → Read FileFault Slice
slice_rows k first rows = Ok (record { fragment = k; first_row = first; rows = rows.0 }, rows.1)

abbrev pub slice_kept : ℕ → ℕ → ℕ × List ℕ → Read FileFault Slice
slice_kept k first rows = within (nat_le rows.0 max_rows) rows >>= slice_rows k first

abbrev pub slice_first : ℕ → ℕ × List ℕ → Read FileFault Slice
slice_first k first = from_wire (number_at 4 first.1) >>= slice_kept k first.0

abbrev pub slice_fragment : ℕ × List ℕ → Read FileFault Slice
slice_fragment k = from_wire (number_at 8 k.1) >>= slice_first k.0

-- ---- headers

abbrev pub header_columns : ℕ → List ℕ → Slice → List Column × List ℕ → Read FileFault Header
header_columns load table slice columns = Ok (record { load = load; table = table; fragment = slice.fragment; first_row = slice.first_row; rows = slice.rows; columns = columns.0 }, columns.1)

abbrev pub header_slice : ℕ → List ℕ → Slice × List ℕ → Read FileFault Header
header_slice load table slice = counted_at slice.1 >>= header_columns load table slice.0

abbrev pub header_table : ℕ → List ℕ × List ℕ → Read FileFault Header
header_table load table = slice_at table.1 >>= header_slice load table.0

abbrev pub header_load : ℕ × List ℕ → Read FileFault Header
header_load load = name_at load.1 >>= header_table load.0

abbrev count_parts : ℕ → List ℕ → Slice → ℕ × List ℕ → Read FileFault Header
count_parts load table slice n = within (nat_le 1 n.0 && nat_le n.0 max_columns) n >>= (λ n. columns_at n.0 [] n.1 >>= header_columns load table slice)

abbrev rows_parts : ℕ → List ℕ → ℕ → ℕ → ℕ × List ℕ → Read FileFault Header
rows_parts load table k first rows = from_wire (number_at 2 rows.1) >>= count_parts load table (record { fragment = k; first_row = first; rows = rows.0 })

abbrev kept_parts : ℕ → List ℕ → ℕ → ℕ → ℕ × List ℕ → Read FileFault Header
kept_parts load table k first rows = within (nat_le rows.0 max_rows) rows >>= rows_parts load table k first

abbrev first_parts : ℕ → List ℕ → ℕ → ℕ × List ℕ → Read FileFault Header
first_parts load table k first = from_wire (number_at 4 first.1) >>= kept_parts load table k first.0

abbrev fragment_parts : ℕ → List ℕ → ℕ × List ℕ → Read FileFault Header
fragment_parts load table k = from_wire (number_at 8 k.1) >>= first_parts load table k.0

abbrev table_parts : ℕ → List ℕ × List ℕ → Read FileFault Header
table_parts load table = from_wire (number_at 4 table.1) >>= fragment_parts load table.0

counted_parts : (load : ℕ) (table : List ℕ) (slice : Slice × List ℕ) → header_slice load table slice ≡ (from_wire (number_at 2 slice.1) >>= count_parts load table slice.0)
counted_parts load table slice =
    in_order (from_wire (number_at 2 slice.1)) counted_count (header_columns load table slice.0)
    ∙ under (from_wire (number_at 2 slice.1)) (λ n. counted_count n >>= header_columns load table slice.0) (count_parts load table slice.0)
    (λ n. in_order (within (nat_le 1 n.0 && nat_le n.0 max_columns) n) counted_kept (header_columns load table slice.0))

slice_parts : (load : ℕ) (table : List ℕ × List ℕ) → header_table load table ≡ table_parts load table
slice_parts load table =
    let next = header_slice load table.0 in
    in_order (from_wire (number_at 4 table.1)) slice_fragment next
    ∙ under (from_wire (number_at 4 table.1)) (λ k. slice_fragment k >>= next) (fragment_parts load table.0) (λ k.
    in_order (from_wire (number_at 8 k.1)) (slice_first k.0) next
    ∙ under (from_wire (number_at 8 k.1)) (λ first. slice_first k.0 first >>= next) (first_parts load table.0 k.0) (λ first.
    in_order (from_wire (number_at 4 first.1)) (slice_kept k.0 first.0) next
    ∙ under (from_wire (number_at 4 first.1)) (λ rows. slice_kept k.0 first.0 rows >>= next) (kept_parts load table.0 k.0 first.0) (λ rows.
    in_order (within (nat_le rows.0 max_rows) rows) (slice_rows k.0 first.0) next
    ∙ under (within (nat_le rows.0 max_rows) rows) (λ rows. slice_rows k.0 first.0 rows >>= next) (rows_parts load table.0 k.0 first.0) (λ rows.
    counted_parts load table.0 (record { fragment = k.0; first_row = first.0; rows = rows.0 }, rows.1)))))

pub header_start : (bytes : List ℕ) → header_at bytes ≡ (from_wire (number_at 8 bytes) >>= header_load)
unfolding header_at
header_start bytes =
    under (from_wire (number_at 8 bytes)) (λ load. name_at load.1 >>= table_parts load.0) header_load
    (λ load. under (name_at load.1) (table_parts load.0) (header_table load.0) (λ table. sym (slice_parts load.0 table)))
