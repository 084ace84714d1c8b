-- The table of a file is the one that was read behind its magic.
use Rattle.std.proofs.Common.{◌≡◌, ◌∙◌, ℕ, zero, suc, ◌-◌, ◌==◌, ◌&&◌, Bool, true, not, List, [], ◌∷◌, ◌++◌, length, map, ap, drop, refl, subst, sym}
use Rattle.std.proofs.lemmas.Bool.{eqb-true}
use Rattle.std.specs.Prelude.{nat_le, if◌then◌else◌, Err, None, Ok, Option, Result, Some}
use Rattle.meaning.specs.Catalog.{is_name}
use Rattle.meaning.specs.Limits.{max_columns, max_name_bytes, max_rows}
use Rattle.meaning.specs.declared.catalog.Column.{Column}
use Rattle.meaning.specs.declared.value.ColType.{ColType}
use Rattle.blocks.specs.Block.{Block}
use Rattle.wire.specs.Reading.{◌>>=◌, Read, behind_magic, bytes_at, number_at, same_bytes, sealed_end}
use Rattle.wire.specs.declared.fault.WireFault.TheVariants.{Magic}
use Rattle.wire.proofs.Numbers.{bind_ok, ok_is, test_passed}
use Rattle.fragment_file.specs.Fragment.{FragmentSpec, IsFileOf, fragment_magic, group_sizes}
use Rattle.fragment_file.specs.FragmentReading as file
use Rattle.fragment_file.specs.FragmentReading.{block_of, flag_of, formed, is_named, kind_of, read_fragment, sound, type_of, within}
use Rattle.fragment_file.specs.Fault.{from_wire}
use Rattle.fragment_file.specs.declared.fault.FileFault.{FileFault}
use Rattle.fragment_file.specs.declared.fault.FileFault.TheVariants as refusal
use Rattle.fragment_file.specs.declared.header.Header.{Header}
use Rattle.fragment_file.proofs.FileLaws.{file_again}
use Rattle.fragment_file.proofs.FromWire.{read_ok}
use Rattle.fragment_file.proofs.HeaderLaws.{passed}
use Rattle.answer_fields.specs.declared.fault.DecodeFault.{DecodeFault}
use Rattle.table_text.specs.BlockText.{as_block, block_at}
use Rattle.table_text.specs.HeaderText.{Front, Place, all_columns_at, column_at, columns_at, front_at, header_of, name_at, place_at}
use Rattle.table_text.specs.TableText.{GroupLayout, TableLayout, blocks_at, fragment_of, group_at, group_of, groups_at, table_at, table_of}
use Rattle.show.proofs.Begins.{four_behind}

as_shown : {X : Type 0} (x y : X) → (let r : Result X FileFault = Ok x in r) ≡ Ok y → (let r : Result X DecodeFault = Ok x in r) ≡ Ok y
as_shown x y e = ap (λ z. Ok z) (ok_is {E = FileFault} x y e)

-- ---- columns

name_of : (bytes : List ℕ) (n : ℕ × List ℕ) (name : List ℕ × List ℕ) → number_at 2 bytes ≡ Ok n → (nat_le 1 n.0 && nat_le n.0 max_name_bytes) ≡ true → bytes_at n.0 n.1 ≡ Ok name → is_name name.0 ≡ true → name_at bytes ≡ Ok name
unfolding name_at
name_of bytes n name one two three four = rw (one, two, three, four) refl

name_same : (bytes : List ℕ) (p : List ℕ × List ℕ) → file.name_at bytes ≡ Ok p → name_at bytes ≡ Ok p
unfolding file.name_at
name_same bytes p e =
    let a = read_ok (number_at 2 bytes) (λ n. within (nat_le 1 n.0 && nat_le n.0 max_name_bytes) n >>= λ n. from_wire (bytes_at n.0 n.1) >>= λ name. formed (is_name name.0) name) p e in
    let w = passed (nat_le 1 a.0.0 && nat_le a.0.0 max_name_bytes) refusal.Limit a.0 (λ n. from_wire (bytes_at n.0 n.1) >>= λ name. formed (is_name name.0) name) p a.2 in
    let b = read_ok (bytes_at a.0.0 a.0.1) (λ name. formed (is_name name.0) name) p w.1 in
    let f = test_passed (is_name b.0.0) refusal.Header (Ok b.0) p b.2 in
    name_of bytes a.0 b.0 a.1 w.0 b.1 f.0 ∙ as_shown b.0 p f.1

abbrev column_of : List ℕ → ColType → Bool → Column
column_of name t nullable = record { name = name; col_type = t; nullable = nullable }

column_again : (earlier : List Column) (bytes : List ℕ) (name : List ℕ × List ℕ) (t f : ℕ × List ℕ) (col_type : ColType) (nullable : Bool) → name_at bytes ≡ Ok name → not (is_named name.0 earlier) ≡ true → number_at 1 name.1 ≡ Ok t → type_of t.0 ≡ Ok col_type
    → number_at 1 t.1 ≡ Ok f → flag_of f.0 ≡ Ok nullable → column_at earlier bytes ≡ Ok (column_of name.0 col_type nullable, f.1)
unfolding column_at
column_again earlier bytes name t f col_type nullable one two three four five six = rw (one, two, three, four, five, six) refl

column_same : (earlier : List Column) (bytes : List ℕ) (p : Column × List ℕ) → file.column_at earlier bytes ≡ Ok p → column_at earlier bytes ≡ Ok p
unfolding file.column_at
column_same earlier bytes p e =
    let behind_flag = λ (name : List ℕ) (t : ColType) (f : ℕ × List ℕ). flag_of f.0 >>= λ nullable. Ok (column_of name t nullable, f.1) in
    let behind_type = λ (name : List ℕ) (t : ℕ × List ℕ). type_of t.0 >>= λ col_type. from_wire (number_at 1 t.1) >>= behind_flag name col_type in
    let behind_name = λ (name : List ℕ × List ℕ). from_wire (number_at 1 name.1) >>= behind_type name.0 in
    let a = bind_ok (file.name_at bytes) (λ name. formed (not (is_named name.0 earlier)) name >>= behind_name) p e in
    let w = passed (not (is_named a.0.0 earlier)) refusal.Header a.0 behind_name p a.2 in
    let t = read_ok (number_at 1 a.0.1) (behind_type a.0.0) p w.1 in
    let col_type = bind_ok (type_of t.0.0) (λ col_type. from_wire (number_at 1 t.0.1) >>= behind_flag a.0.0 col_type) p t.2 in
    let f = read_ok (number_at 1 t.0.1) (behind_flag a.0.0 col_type.0) p col_type.2 in
    let nullable = bind_ok (flag_of f.0.0) (λ nullable. Ok (column_of a.0.0 col_type.0 nullable, f.0.1)) p f.2 in
    column_again earlier bytes a.0 t.0 f.0 col_type.0 nullable.0 (name_same bytes a.0 a.1) w.0 t.1 col_type.1 f.1 nullable.1 ∙ as_shown (column_of a.0.0 col_type.0 nullable.0, f.0.1) p nullable.2

columns_same : (n : ℕ) (earlier : List Column) (bytes : List ℕ) (p : List Column × List ℕ) → file.columns_at n earlier bytes ≡ Ok p → columns_at n earlier bytes ≡ Ok p
unfolding file.columns_at columns_at
columns_same zero earlier bytes p e = as_shown (earlier, bytes) p e
columns_same (suc n) earlier bytes p e =
    let a = bind_ok (file.column_at earlier bytes) (λ c. file.columns_at n (earlier ++ c.0 ∷ []) c.1) p e in
    rw (column_same earlier bytes a.0 a.1) (columns_same n (earlier ++ a.0.0 ∷ []) a.0.1 p a.2)

-- ---- headers

abbrev front_of : ℕ → List ℕ → Place → Front
front_of load table place = record { load = load; table = table; place = place }

abbrev place_of : ℕ → ℕ → ℕ → Place
place_of k first rows = record { fragment = k; first_row = first; rows = rows }

front_again : (bytes : List ℕ) (load : ℕ × List ℕ) (table : List ℕ × List ℕ) (place : Place × List ℕ) → number_at 8 bytes ≡ Ok load → name_at load.1 ≡ Ok table → place_at table.1 ≡ Ok place → front_at bytes ≡ Ok (front_of load.0 table.0 place.0, place.1)
front_again bytes load table place one two three = rw (one, two, three) refl

place_again : (bytes : List ℕ) (k first rows : ℕ × List ℕ) → number_at 4 bytes ≡ Ok k → number_at 8 k.1 ≡ Ok first → number_at 4 first.1 ≡ Ok rows → nat_le rows.0 max_rows ≡ true → place_at bytes ≡ Ok (place_of k.0 first.0 rows.0, rows.1)
place_again bytes k first rows one two three four = rw (one, two, three, four) refl

counted : (bytes : List ℕ) (n : ℕ × List ℕ) (columns : List Column × List ℕ) → number_at 2 bytes ≡ Ok n → (nat_le 1 n.0 && nat_le n.0 max_columns) ≡ true → columns_at n.0 [] n.1 ≡ Ok columns → all_columns_at bytes ≡ Ok columns
counted bytes n columns one two three = rw (one, two, three) refl

abbrev behind_rows : Front → List ℕ → Read FileFault Header
behind_rows front bytes = from_wire (number_at 2 bytes) >>= λ n. within (nat_le 1 n.0 && nat_le n.0 max_columns) n >>= λ n. file.columns_at n.0 [] n.1 >>= λ columns. Ok (header_of front columns.0, columns.1)

abbrev behind_first : ℕ → List ℕ → ℕ → ℕ → List ℕ → Read FileFault Header
behind_first load table k first bytes = from_wire (number_at 4 bytes) >>= λ rows. within (nat_le rows.0 max_rows) rows >>= λ rows. behind_rows (front_of load table (place_of k first rows.0)) rows.1

abbrev behind_k : ℕ → List ℕ → ℕ → List ℕ → Read FileFault Header
behind_k load table k bytes = from_wire (number_at 8 bytes) >>= λ first. behind_first load table k first.0 first.1

abbrev behind_table : ℕ → List ℕ → List ℕ → Read FileFault Header
behind_table load table bytes = from_wire (number_at 4 bytes) >>= λ k. behind_k load table k.0 k.1

-- the columns that are read from these bytes, and the header of which they are
abbrev AreRead : Front → List ℕ → Header × List ℕ → Type 0
AreRead front bytes p = (columns : List Column) × (all_columns_at bytes ≡ Ok (columns, p.1)) × (header_of front columns ≡ p.0)

columns_read : (front : Front) (bytes : List ℕ) (p : Header × List ℕ) → behind_rows front bytes ≡ Ok p → AreRead front bytes p
columns_read front bytes p e =
    let n = read_ok (number_at 2 bytes) (λ n. within (nat_le 1 n.0 && nat_le n.0 max_columns) n >>= λ n. file.columns_at n.0 [] n.1 >>= λ columns. Ok (header_of front columns.0, columns.1)) p e in
    let few = passed (nat_le 1 n.0.0 && nat_le n.0.0 max_columns) refusal.Limit n.0 (λ n. file.columns_at n.0 [] n.1 >>= λ columns. Ok (header_of front columns.0, columns.1)) p n.2 in
    let columns = bind_ok (file.columns_at n.0.0 [] n.0.1) (λ columns. Ok (header_of front columns.0, columns.1)) p few.1 in
    let whole : (header_of front columns.0.0, columns.0.1) ≡ p = ok_is {E = FileFault} (header_of front columns.0.0, columns.0.1) p columns.2 in
    (columns.0.0, counted bytes n.0 columns.0 n.1 few.0 (columns_same n.0.0 [] n.0.1 columns.0 columns.1) ∙ ap (λ (q : Header × List ℕ). Ok (columns.0.0, q.1)) whole, ap (λ (q : Header × List ℕ). q.0) whole)

rows_read : (load : ℕ) (table : List ℕ) (k first : ℕ) (bytes : List ℕ) (p : Header × List ℕ) → behind_first load table k first bytes ≡ Ok p
    → (rows : ℕ × List ℕ) × (number_at 4 bytes ≡ Ok rows) × (nat_le rows.0 max_rows ≡ true) × AreRead (front_of load table (place_of k first rows.0)) rows.1 p
rows_read load table k first bytes p e =
    let rows = read_ok (number_at 4 bytes) (λ rows. within (nat_le rows.0 max_rows) rows >>= λ rows. behind_rows (front_of load table (place_of k first rows.0)) rows.1) p e in
    let short = passed (nat_le rows.0.0 max_rows) refusal.Limit rows.0 (λ rows. behind_rows (front_of load table (place_of k first rows.0)) rows.1) p rows.2 in
    (rows.0, rows.1, short.0, columns_read (front_of load table (place_of k first rows.0.0)) rows.0.1 p short.1)

place_read : (load : ℕ) (table bytes : List ℕ) (p : Header × List ℕ) → behind_table load table bytes ≡ Ok p → (place : Place × List ℕ) × (place_at bytes ≡ Ok place) × AreRead (front_of load table place.0) place.1 p
place_read load table bytes p e =
    let k = read_ok (number_at 4 bytes) (λ k. behind_k load table k.0 k.1) p e in
    let first = read_ok (number_at 8 k.0.1) (λ first. behind_first load table k.0.0 first.0 first.1) p k.2 in
    let rows = rows_read load table k.0.0 first.0.0 first.0.1 p first.2 in
    ((place_of k.0.0 first.0.0 rows.0.0, rows.0.1), place_again bytes k.0 first.0 rows.0 k.1 first.1 rows.1 rows.2, rows.3)

header_same : (bytes : List ℕ) (p : Header × List ℕ) → file.header_at bytes ≡ Ok p → (front : Front × List ℕ) × (front_at bytes ≡ Ok front) × AreRead front.0 front.1 p
unfolding file.header_at
header_same bytes p e =
    let load = read_ok (number_at 8 bytes) (λ load. file.name_at load.1 >>= λ table. behind_table load.0 table.0 table.1) p e in
    let table = bind_ok (file.name_at load.0.1) (λ table. behind_table load.0.0 table.0 table.1) p load.2 in
    let place = place_read load.0.0 table.0.0 table.0.1 p table.2 in
    ((front_of load.0.0 table.0.0 place.0.0, place.0.1), front_again bytes load.0 table.0 place.0 load.1 (name_same load.0.1 table.0 table.1) place.1, place.2)

-- ---- blocks

judged : (group column : ℕ) (given : Option Block) (b : Block) (rest : List ℕ) → sound group column given ≡ Ok b → as_block given rest ≡ Ok (b, rest)
judged group column None b rest e = absurd cc
judged group column (Some x) b rest e = let same : x ≡ b = ok_is {E = FileFault} x b e in ap (λ y. Ok (y, rest)) same

block_again : (c : Column) (rows : ℕ) (bytes : List ℕ) (k n : ℕ × List ℕ) (payload : List ℕ × List ℕ) (b : Block) → number_at 1 bytes ≡ Ok k → number_at 4 k.1 ≡ Ok n → bytes_at n.0 n.1 ≡ Ok payload
    → as_block (block_of (kind_of k.0) c rows payload.0) payload.1 ≡ Ok (b, payload.1) → block_at c rows bytes ≡ Ok (b, payload.1)
unfolding block_at
block_again c rows bytes k n payload b one two three four = rw (one, two, three) four

block_same : (group column : ℕ) (c : Column) (rows : ℕ) (bytes : List ℕ) (p : Block × List ℕ) → file.block_at group column c rows bytes ≡ Ok p → block_at c rows bytes ≡ Ok p
unfolding file.block_at
block_same group column c rows bytes p e =
    let behind_payload = λ (k : ℕ) (payload : List ℕ × List ℕ). sound group column (block_of (kind_of k) c rows payload.0) >>= λ b. Ok (b, payload.1) in
    let behind_length = λ (k : ℕ) (n : ℕ × List ℕ). from_wire (bytes_at n.0 n.1) >>= behind_payload k in
    let k = read_ok (number_at 1 bytes) (λ k. from_wire (number_at 4 k.1) >>= behind_length k.0) p e in
    let n = read_ok (number_at 4 k.0.1) (behind_length k.0.0) p k.2 in
    let payload = read_ok (bytes_at n.0.0 n.0.1) (behind_payload k.0.0) p n.2 in
    let b = bind_ok (sound group column (block_of (kind_of k.0.0) c rows payload.0.0)) (λ b. Ok (b, payload.0.1)) p payload.2 in
    block_again c rows bytes k.0 n.0 payload.0 b.0 k.1 n.1 payload.1 (judged group column (block_of (kind_of k.0.0) c rows payload.0.0) b.0 payload.0.1 b.1) ∙ as_shown (b.0, payload.0.1) p b.2

blocks_same : (group column : ℕ) (columns : List Column) (rows : ℕ) (bytes : List ℕ) (p : List Block × List ℕ) → file.blocks_at group column columns rows bytes ≡ Ok p → blocks_at columns rows bytes ≡ Ok p
unfolding file.blocks_at blocks_at
blocks_same group column [] rows bytes p e = as_shown ([], bytes) p e
blocks_same group column (c ∷ columns) rows bytes p e =
    let a = bind_ok (file.block_at group column c rows bytes) (λ b. file.blocks_at group (suc column) columns rows b.1 >>= λ others. Ok (b.0 ∷ others.0, others.1)) p e in
    let o = bind_ok (file.blocks_at group (suc column) columns rows a.0.1) (λ others. Ok (a.0.0 ∷ others.0, others.1)) p a.2 in
    rw (block_same group column c rows bytes a.0 a.1, blocks_same group (suc column) columns rows a.0.1 o.0 o.1) (as_shown (a.0.0 ∷ o.0.0, o.0.1) p o.2)

-- ---- row groups

group_again : (whole : List ℕ) (columns : List Column) (rows : ℕ) (bytes : List ℕ) (n : ℕ × List ℕ) (blocks : List Block × List ℕ) → number_at 4 bytes ≡ Ok n → (n.0 == rows) ≡ true → blocks_at columns n.0 n.1 ≡ Ok blocks
    → group_at whole columns rows bytes ≡ Ok (group_of (length whole - length bytes) n.0 blocks.0, blocks.1)
group_again whole columns rows bytes n blocks one two three = rw (one, two, three) refl

group_same : (whole : List ℕ) (group : ℕ) (columns : List Column) (rows : ℕ) (bytes : List ℕ) (p : List Block × List ℕ) → file.group_at group columns rows bytes ≡ Ok p → (g : GroupLayout) × (group_at whole columns rows bytes ≡ Ok (g, p.1)) × (g.blocks ≡ p.0)
unfolding file.group_at
group_same whole group columns rows bytes p e =
    let n = read_ok (number_at 4 bytes) (λ n. formed (n.0 == rows) n >>= λ n. file.blocks_at group 0 columns rows n.1) p e in
    let kept = passed (n.0.0 == rows) refusal.Header n.0 (λ n. file.blocks_at group 0 columns rows n.1) p n.2 in
    let same : n.0.0 ≡ rows = eqb-true n.0.0 rows kept.0 in
    let blocks = subst (λ r. blocks_at columns r n.0.1 ≡ Ok p) (sym same) (blocks_same group 0 columns rows n.0.1 p kept.1) in
    (group_of (length whole - length bytes) n.0.0 p.0, group_again whole columns rows bytes n.0 p n.1 kept.0 blocks, refl)

groups_same : (whole : List ℕ) (group : ℕ) (columns : List Column) (sizes bytes : List ℕ) (p : List (List Block) × List ℕ) → file.groups_at group columns sizes bytes ≡ Ok p
    → (gs : List GroupLayout) × (groups_at whole columns sizes bytes ≡ Ok (gs, p.1)) × (map (λ g. g.blocks) gs ≡ p.0)
unfolding file.groups_at groups_at
groups_same whole group columns [] bytes p e =
    let same = ok_is {E = FileFault} ([], bytes) p e in
    ([], ap (λ (q : List (List Block) × List ℕ). Ok ([], q.1)) same, ap (λ (q : List (List Block) × List ℕ). q.0) same)
groups_same whole group columns (rows ∷ sizes) bytes p e =
    let a = bind_ok (file.group_at group columns rows bytes) (λ g. file.groups_at (suc group) columns sizes g.1 >>= λ others. Ok (g.0 ∷ others.0, others.1)) p e in
    let o = bind_ok (file.groups_at (suc group) columns sizes a.0.1) (λ others. Ok (a.0.0 ∷ others.0, others.1)) p a.2 in
    let (g, one, blocks) = group_same whole group columns rows bytes a.0 a.1 in
    let (gs, others, all) = groups_same whole (suc group) columns sizes a.0.1 o.0 o.1 in
    let same = ok_is {E = FileFault} (a.0.0 ∷ o.0.0, o.0.1) p o.2 in (
      g ∷ gs,
      rw (one, others) (ap (λ (q : List (List Block) × List ℕ). Ok (g ∷ gs, q.1)) same),
      (λ i. blocks i ∷ all i) ∙ ap (λ (q : List (List Block) × List ℕ). q.0) same,
    )

-- ---- files

magic_behind : (bytes behind : List ℕ) → behind_magic fragment_magic bytes ≡ Ok behind → behind ≡ drop 4 bytes
unfolding behind_magic
magic_behind bytes behind e =
    let first = bind_ok (bytes_at 4 bytes) (λ first. if same_bytes first.0 fragment_magic then Ok first.1 else Err Magic) behind e in
    let kept = test_passed (same_bytes first.0.0 fragment_magic) Magic (Ok first.0.1) behind first.2 in
    sym (ok_is first.0.1 behind kept.1) ∙ four_behind bytes first.0 first.1

table_again : (whole bytes : List ℕ) (front : Front × List ℕ) (columns : List Column × List ℕ) (groups : List GroupLayout × List ℕ) (seal : List ℕ × List ℕ) (end : List ℕ) → front_at bytes ≡ Ok front → all_columns_at front.1 ≡ Ok columns
    → groups_at whole columns.0 (group_sizes front.0.place.rows) columns.1 ≡ Ok groups → bytes_at 32 groups.1 ≡ Ok seal → sealed_end whole seal.0 seal.1 ≡ Ok end → table_at whole bytes ≡ Ok (table_of front.0 (columns.0, groups.0), seal.1)
table_again whole bytes front columns groups seal end one two three four five = rw (one, two, three, four, five) refl

abbrev done : Header → List (List Block) → FragmentSpec
done header groups = record { header = header; groups = groups }

read_same : (bytes : List ℕ) (f : FragmentSpec) → read_fragment bytes ≡ Ok f → (t : TableLayout) × (rest : List ℕ) × (table_at bytes (drop 4 bytes) ≡ Ok (t, rest)) × (fragment_of t ≡ f)
unfolding read_fragment
read_same bytes f e =
    let behind_groups = λ (header : Header) (groups : List (List Block) × List ℕ). from_wire (bytes_at 32 groups.1) >>= λ seal. from_wire (sealed_end bytes seal.0 seal.1) >>= λ end. Ok (done header groups.0) in
    let behind_header = λ (header : Header × List ℕ). file.groups_at 0 header.0.columns (group_sizes header.0.rows) header.1 >>= behind_groups header.0 in
    let m = read_ok (behind_magic fragment_magic bytes) (λ rest. file.header_at rest >>= behind_header) f e in
    let h = bind_ok (file.header_at m.0) behind_header f m.2 in
    let g = bind_ok (file.groups_at 0 h.0.0.columns (group_sizes h.0.0.rows) h.0.1) (behind_groups h.0.0) f h.2 in
    let s = read_ok (bytes_at 32 g.0.1) (λ seal. from_wire (sealed_end bytes seal.0 seal.1) >>= λ end. Ok (done h.0.0 g.0.0)) f g.2 in
    let d = read_ok (sealed_end bytes s.0.0 s.0.1) (λ end. Ok (done h.0.0 g.0.0)) f s.2 in
    let (front, front_read, (columns, behind_front, header)) = header_same m.0 h.0 h.1 in
    let (groups, groups_read, blocks) = groups_same bytes 0 h.0.0.columns (group_sizes h.0.0.rows) h.0.1 g.0 g.1 in
    let moved = subst (λ (x : Header). groups_at bytes x.columns (group_sizes x.rows) h.0.1 ≡ Ok (groups, g.0.1)) (sym header) groups_read in
    let t = table_of front.0 (columns, groups) in (
      t,
      s.0.1,
      subst (λ b. table_at bytes b ≡ Ok (t, s.0.1)) (magic_behind bytes m.0 m.1) (table_again bytes m.0 front (columns, h.0.1) (groups, g.0.1) s.0 d.0 front_read behind_front moved s.1 d.1),
      (λ i. done (header i) (blocks i)) ∙ ok_is {E = FileFault} (done h.0.0 g.0.0) f d.2,
    )

-- a table is read from its file's bytes
pub table_of_file : (bytes : List ℕ) (f : FragmentSpec) → IsFileOf bytes f → (t : TableLayout) × (rest : List ℕ) × (table_at bytes (drop 4 bytes) ≡ Ok (t, rest)) × (fragment_of t ≡ f)
table_of_file bytes f is = read_same bytes f (file_again bytes f is)

-- what is read of a file's bytes is what they are the file of
pub one_table_read : (bytes : List ℕ) (f : FragmentSpec) (t : TableLayout) (rest : List ℕ) → IsFileOf bytes f → table_at bytes (drop 4 bytes) ≡ Ok (t, rest) → IsFileOf bytes (fragment_of t)
one_table_read bytes f t rest is there =
    let (made, behind, same, whole) = table_of_file bytes f is in
    let one : t ≡ made = ap (λ (p : TableLayout × List ℕ). p.0) (ok_is {E = DecodeFault} (t, rest) (made, behind) (sym there ∙ same)) in
    subst (λ (x : FragmentSpec). IsFileOf bytes x) (sym (ap fragment_of one ∙ whole)) is
