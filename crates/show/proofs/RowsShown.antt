-- Rows of a table's file that are written, row group after row group.
use Rattle.std.proofs.Common.{◌≡◌, ◌≢◌, ◌≤◌, ℕ, zero, suc, ◌+◌, ◌-◌, cond, true, false, List, [], ◌∷◌, ◌++◌, None, Ok, Option, Some, length, map, take, ap, refl, subst, sym, ◌∙◌, append-nil, length-append, arith}
use Rattle.std.specs.Prelude.{All, flat_map, min}
use Rattle.std.specs.Io.KnownBytes.{Appends, Keeps}
use Rattle.std.specs.List.{range_with_len}
use Rattle.std.proofs.KnownBytes.{Appends-nil, Appends-trans}
use Rattle.std.proofs.lemmas.Grind.{flat_map-append}
use Rattle.std.proofs.lemmas.List.{take-append-le, take_all, take_min}
use Rattle.std.proofs.lemmas.List.Elements.{All-cons, All-nil, All-weaker}
use Rattle.std.proofs.lemmas.List.FromFn.{length-map-range_with_len, map-range_with_len_more, take-map-range_with_len}
use Rattle.csv.specs.Writing.{default_writer, fields_written, has_written, row_text, text_written, writer_setup}
use Rattle.csv.specs.declared.writer.QuoteStyle.TheVariants as style
use Rattle.csv.specs.declared.writer.Writer.{Writer}
use Rattle.meaning.specs.declared.catalog.Column.{Column}
use Rattle.blocks.specs.Block.{Block, is_block}
use Rattle.blocks.specs.declared.kind.Kind.{Kind}
use Rattle.wire.specs.Reading.{◌>>=◌, Read}
use Rattle.wire.proofs.Numbers.{bind_ok, ok_is}
use Rattle.answer_fields.specs.declared.fault.DecodeFault.{DecodeFault}
use Rattle.fragment_file.specs.Fragment.{group_sizes}
use Rattle.fragment_file.specs.FragmentReading.{block_of, kind_of}
use Rattle.table_text.specs.BlockText.{as_block, block_at, payload_at}
use Rattle.table_text.specs.HeaderText.{Front, all_columns_at, front_at}
use Rattle.table_text.specs.TableText.{GroupLayout, TableLayout, blocks_at, columns_and_groups_at, group_at, group_of, group_rows_at, groups_at, sealed_groups_at, table_at, table_of}
use Rattle.table_text.proofs.GroupsShown.{behind}
use Rattle.answer_text.specs.Reading.{seal_at}
use Rattle.show.specs.Rows.{IsBetween, group_rows, records_text, row_of, rows_in, rows_text}

-- ---- blocks have the rows that were asked for

has_rows : (k : Option Kind) (c : Column) (rows : ℕ) (payload behind : List ℕ) (b : Block) (rest : List ℕ) → as_block (block_of k c rows payload) behind ≡ Ok (b, rest) → b.rows ≡ rows
has_rows None c rows payload behind b rest e = absurd cc
has_rows (Some k) c rows payload behind b rest e =
    let made : Block = record { kind = k; col_type = c.col_type; nullable = c.nullable; rows = rows; payload = payload } in
    elim (is_block made) as (λ t. as_block (cond t (Some made) None) behind ≡ Ok (b, rest) → b.rows ≡ rows) [
      | true ↦ λ is. sym (ap (λ (p : Block × List ℕ). p.0.rows) (ok_is {E = DecodeFault} (made, behind) (b, rest) is))
      | false ↦ λ is. absurd cc
    ] e

block_rows : (c : Column) (rows : ℕ) (bytes : List ℕ) (p : Block × List ℕ) → block_at c rows bytes ≡ Ok p → p.0.rows ≡ rows
unfolding block_at
block_rows c rows bytes p e =
    let (payload, read, is) = bind_ok (payload_at bytes) (λ p. as_block (block_of (kind_of p.0.0) c rows p.0.1) p.1) p e in
    has_rows (kind_of payload.0.0) c rows payload.0.1 payload.1 p.0 p.1 is

pub blocks_rows : (columns : List Column) (rows : ℕ) (bytes : List ℕ) (p : List Block × List ℕ) → blocks_at columns rows bytes ≡ Ok p → All (λ b. b.rows ≡ rows) p.0
unfolding blocks_at
blocks_rows [] rows bytes p e =
    let same = ok_is {E = DecodeFault} ([], bytes) p e in
    subst (λ (q : List Block × List ℕ). All (λ b. b.rows ≡ rows) q.0) same (All-nil (λ (b : Block). b.rows ≡ rows))
blocks_rows (c ∷ columns) rows bytes p e =
    let (b, one, more) = bind_ok (block_at c rows bytes) (λ b. blocks_at columns rows b.1 >>= λ others. Ok (b.0 ∷ others.0, others.1)) p e in
    let (others, rest, is) = bind_ok (blocks_at columns rows b.1) (λ others. Ok (b.0 ∷ others.0, others.1)) p more in
    let same = ok_is {E = DecodeFault} (b.0 ∷ others.0, others.1) p is in
    subst (λ (q : List Block × List ℕ). All (λ b. b.rows ≡ rows) q.0) same (All-cons (λ (b : Block). b.rows ≡ rows) b.0 others.0 (block_rows c rows bytes b one) (blocks_rows columns rows b.1 others rest))

-- ---- records

looks_at_no_number : {W : Type 0} (writer : Writer W) → writer_setup writer ≡ default_writer → (writer_setup writer).style ≢ style.NonNumeric
looks_at_no_number writer setup e = cc

-- what the writer says of a record's text, where it stood before the record
pub one_record : {W : Type 0} (contents : W → Option (List ℕ)) (old new : Writer W) (fields : List (List ℕ)) → IsBetween old
    → (fields_written old ≡ 0 → has_written old ≡ false → (writer_setup old).style ≢ style.NonNumeric → Appends (text_written contents old) (text_written contents new) (row_text (writer_setup old) fields))
    → Appends (text_written contents old) (text_written contents new) (row_text default_writer fields)
one_record contents old new fields before said =
    subst (Appends (text_written contents old) (text_written contents new)) (ap (λ setup. row_text setup fields) before.setup) (said before.fields before.blank (looks_at_no_number old before.setup))

pub no_records : (a : Option (List ℕ)) → Appends a a (records_text [])
no_records a = Appends-nil a

-- some records, and others behind them
pub more_records : (a b c : Option (List ℕ)) (front back : List (List (List ℕ))) → Appends a b (records_text front) → Appends b c (records_text back) → Appends a c (records_text (front ++ back))
more_records a b c front back first rest =
    subst (Appends a c) (sym (flat_map-append (row_text default_writer) front back)) (Appends-trans a b c (records_text front) (records_text back) first rest)

as_records : (a b : Option (List ℕ)) (fields : List (List ℕ)) → Appends a b (row_text default_writer fields) → Appends a b (records_text (fields ∷ []))
as_records a b fields one = subst (Appends a b) (sym (append-nil (row_text default_writer fields))) one

-- a row more of the blocks
pub one_row_more : (blocks : List Block) (row : ℕ) (a b c : Option (List ℕ)) → Appends a b (records_text (map (row_of blocks) (range_with_len 0 row))) → Appends b c (row_text default_writer (row_of blocks row)) → Appends a c (records_text (map (row_of blocks) (range_with_len 0 (row + 1))))
one_row_more blocks row a b c done one =
    subst (λ records. Appends a c (records_text records)) (sym (map-range_with_len_more (row_of blocks) 0 row row (omega arith)))
    (more_records a b c (map (row_of blocks) (range_with_len 0 row)) (row_of blocks row ∷ []) done (as_records b c (row_of blocks row) one))

-- a header in front of records
pub behind_header : (a b c : Option (List ℕ)) (header : List (List ℕ)) (records : List (List (List ℕ))) → Appends a b (row_text default_writer header) → Appends b c (records_text records) → Appends a c (records_text (header ∷ records))
behind_header a b c header records first rest = Appends-trans a b c (row_text default_writer header) (records_text records) first rest

-- ---- rows of blocks that have so many

pub has_first : (blocks : List Block) (count first : ℕ) → first ≤ count → All (λ b. b.rows ≡ count) blocks → All (λ b. first ≤ b.rows) blocks
has_first blocks count first below all = All-weaker (λ (b : Block). b.rows ≡ count) (λ b. first ≤ b.rows) (λ b is. omega (arith, below, is)) blocks all

-- ---- the first rows

take_past : {X : Type 0} (n : ℕ) (xs ys : List X) → length xs ≤ n → take n (xs ++ ys) ≡ xs ++ take (n - length xs) ys
take_past {X} n [] ys past = let same : n ≡ n - 0 = omega arith in ap (λ k. take k ys) same
take_past zero (x ∷ xs) ys past = absurd (omega (arith, past))
take_past (suc n) (x ∷ xs) ys past =
    let less : n - length xs ≡ suc n - suc (length xs) = omega arith in
    ap (λ t. x ∷ t) (take_past n xs ys (omega (arith, past))) ∙ ap (λ k. x ∷ (xs ++ take k ys)) less

pub take_none : {X : Type 0} (n : ℕ) → take n (let none : List X = [] in none) ≡ []
take_none zero = refl
take_none (suc n) = refl

-- the first of so many rows, as many as are wanted
rows_first : {X : Type 0} (f : ℕ → X) (count wanted n : ℕ) → n ≡ min count wanted → map f (range_with_len 0 n) ≡ take wanted (map f (range_with_len 0 count))
rows_first f count wanted n is =
    let all = map f (range_with_len 0 count) in
    let long : length all ≡ count = length-map-range_with_len f 0 count in
    let least : n ≡ min wanted (length all) = omega (arith, is, long) in
    sym (take-map-range_with_len f 0 count n (omega (arith, is))) ∙ ap (λ k. take k all) least ∙ take_min wanted all

rows_behind : (read : List GroupLayout) (g : GroupLayout) → rows_in (read ++ g ∷ []) ≡ rows_in read ++ group_rows g
rows_behind read g = flat_map-append group_rows read (g ∷ []) ∙ ap (λ rows. rows_in read ++ rows) (append-nil (group_rows g))

module _ (most wanted : ℕ) (read : List GroupLayout) (left_so : wanted ≡ most - length (rows_in read)) where
  pub group_more : (g : GroupLayout) (given : List Block) (n : ℕ) (a b c : Option (List ℕ)) → given ≡ g.blocks → wanted ≢ 0 → n ≡ min g.rows wanted → Appends a b (records_text (take most (rows_in read))) → Appends b c (records_text (map (row_of given) (range_with_len 0 n)))
      → Appends a c (records_text (take most (rows_in (read ++ g ∷ []))))
  group_more g given n a b c same some is done more =
      let before = rows_in read in
      let short : length before ≤ most = omega (arith, left_so, some) in
      let first : map (row_of g.blocks) (range_with_len 0 n) ≡ take (most - length before) (group_rows g) = rows_first (row_of g.blocks) g.rows wanted n is ∙ ap (λ k. take k (group_rows g)) left_so in
      let together : take most before ++ map (row_of g.blocks) (range_with_len 0 n) ≡ take most (rows_in (read ++ g ∷ [])) =
      (λ i. take_all most before short i ++ first i) ∙ sym (take_past most before (group_rows g) short) ∙ ap (take most) (sym (rows_behind read g)) in
      let here = subst (λ blocks. Appends b c (records_text (map (row_of blocks) (range_with_len 0 n)))) same more in
      subst (λ records. Appends a c (records_text records)) together (more_records a b c (take most before) (map (row_of g.blocks) (range_with_len 0 n)) done here)

  pub fewer_left : (g : GroupLayout) (next : ℕ) → next ≡ wanted - g.rows → next ≡ most - length (rows_in (read ++ g ∷ []))
  fewer_left g next less =
      let long : length (rows_in (read ++ g ∷ [])) ≡ length (rows_in read) + length (group_rows g) = ap length (rows_behind read g) ∙ length-append (rows_in read) (group_rows g) in
      let rows : length (group_rows g) ≡ g.rows = length-map-range_with_len (row_of g.blocks) 0 g.rows in
      omega (arith, left_so, less, long, rows)

  -- none is wanted of the row groups that aren't read
  pub enough : (unread : Read DecodeFault (List GroupLayout)) (groups : List GroupLayout) (rest : List ℕ) (a b : Option (List ℕ)) → wanted ≡ 0 → behind read unread ≡ Ok (groups, rest) → Appends a b (records_text (take most (rows_in read)))
      → Appends a b (records_text (take most (rows_in groups)))
  enough unread groups rest a b none e done =
      let (others, is, made) = bind_ok unread (λ others. Ok (read ++ others.0, others.1)) (groups, rest) e in
      let all : read ++ others.0 ≡ groups = ap (λ (p : List GroupLayout × List ℕ). p.0) (ok_is {E = DecodeFault} (read ++ others.0, others.1) (groups, rest) made) in
      let same : take most (rows_in read) ≡ take most (rows_in groups) =
      sym (take-append-le most (rows_in read) (rows_in others.0) (omega (arith, left_so, none))) ∙ ap (take most) (sym (flat_map-append group_rows read others.0)) ∙ ap (λ gs. take most (rows_in gs)) all in
      subst (λ records. Appends a b (records_text records)) same done

-- all row groups are read
pub all_read : (read groups : List GroupLayout) (end rest : List ℕ) (all : Read DecodeFault (List GroupLayout)) → all ≡ Ok (read, end) → all ≡ Ok (groups, rest) → read ≡ groups
all_read read groups end rest all one two = ap (λ (p : List GroupLayout × List ℕ). p.0) (ok_is {E = DecodeFault} (read, end) (groups, rest) (sym one ∙ two))

pub group_is : (whole : List ℕ) (columns : List Column) (rows : ℕ) (bytes : List ℕ) (count : ℕ) (mid : List ℕ) (blocks : List Block) (rest : List ℕ) → group_rows_at rows bytes ≡ Ok (count, mid) → blocks_at columns count mid ≡ Ok (blocks, rest)
    → group_at whole columns rows bytes ≡ Ok (group_of (length whole - length bytes) count blocks, rest)
group_is whole columns rows bytes count mid blocks rest one two = rw (one, two) refl

all_kept : (start after : Option (List ℕ)) (csv text : List ℕ) → start ≡ Some [] → Appends start after text → Keeps after (Some csv) → csv ≡ text
all_kept None after csv text none appended kept = absurd cc
all_kept (Some xs) None csv text none appended kept = absurd appended
all_kept (Some xs) (Some ys) csv text none appended kept =
    let empty : xs ≡ [] = cc in
    kept ∙ appended ∙ ap (λ x. x ++ text) empty

-- what an empty writer was given is all that it gives back
pub csv_is : {W : Type 0} (old new : Writer W) (contents : W → Option (List ℕ)) (csv text : List ℕ) → text_written contents old ≡ Some [] → Appends (text_written contents old) (text_written contents new) text → Keeps (text_written contents new) (Some csv) → csv ≡ text
csv_is old new contents csv text none appended kept = all_kept (text_written contents old) (text_written contents new) csv text none appended kept

-- ---- a table's file

abbrev sealed_rest : List GroupLayout × List ℕ → Unit {0} × List ℕ → Read DecodeFault (List GroupLayout)
sealed_rest groups seal = Ok (groups.0, seal.1)

abbrev with_columns : List Column → List GroupLayout × List ℕ → Read DecodeFault (List Column × List GroupLayout)
with_columns columns groups = Ok ((columns, groups.0), groups.1)

abbrev with_front : Front → (List Column × List GroupLayout) × List ℕ → Read DecodeFault TableLayout
with_front front behind = Ok (table_of front behind.0, behind.1)

-- what was read of the front and the columns is the table's, and behind them stand its row groups
pub table_rows : (whole bytes : List ℕ) (front : Front × List ℕ) (columns : List Column × List ℕ) (t : TableLayout) (rest : List ℕ) → front_at bytes ≡ Ok front → all_columns_at front.1 ≡ Ok columns → table_at whole bytes ≡ Ok (t, rest)
    → (groups : List GroupLayout × List ℕ) × (groups_at whole columns.0 (group_sizes front.0.place.rows) columns.1 ≡ Ok groups) × (table_of front.0 (columns.0, groups.0) ≡ t)
table_rows whole bytes front columns t rest one two e =
    let (f, front_is, behind_front) = bind_ok (front_at bytes) (λ front. columns_and_groups_at whole front.0.place.rows front.1 >>= with_front front.0) (t, rest) e in
    let same_front : f ≡ front = ok_is {E = DecodeFault} f front (sym front_is ∙ one) in
    let here = subst (λ (x : Front × List ℕ). (columns_and_groups_at whole x.0.place.rows x.1 >>= with_front x.0) ≡ Ok (t, rest)) same_front behind_front in
    let (both, both_are, made) = bind_ok (columns_and_groups_at whole front.0.place.rows front.1) (with_front front.0) (t, rest) here in
    let (c, columns_are, behind_columns) = bind_ok (all_columns_at front.1) (λ columns. sealed_groups_at whole columns.0 front.0.place.rows columns.1 >>= with_columns columns.0) both both_are in
    let same_columns : c ≡ columns = ok_is {E = DecodeFault} c columns (sym columns_are ∙ two) in
    let there = subst (λ (x : List Column × List ℕ). (sealed_groups_at whole x.0 front.0.place.rows x.1 >>= with_columns x.0) ≡ Ok both) same_columns behind_columns in
    let (sealed, sealed_are, pair) = bind_ok (sealed_groups_at whole columns.0 front.0.place.rows columns.1) (with_columns columns.0) both there in
    let (groups, groups_are, seal) = bind_ok (groups_at whole columns.0 (group_sizes front.0.place.rows) columns.1) (λ groups. seal_at whole groups.1 >>= sealed_rest groups) sealed sealed_are in
    let (end, end_is, last) = bind_ok (seal_at whole groups.1) (sealed_rest groups) sealed seal in
    let kept : groups.0 ≡ sealed.0 = ap (λ (p : List GroupLayout × List ℕ). p.0) (ok_is {E = DecodeFault} (groups.0, end.1) sealed last) in
    let paired : (columns.0, sealed.0) ≡ both.0 = ap (λ (p : (List Column × List GroupLayout) × List ℕ). p.0) (ok_is {E = DecodeFault} ((columns.0, sealed.0), sealed.1) both pair) in
    let whole_is : table_of front.0 both.0 ≡ t = ap (λ (p : TableLayout × List ℕ). p.0) (ok_is {E = DecodeFault} (table_of front.0 both.0, both.1) (t, rest) made) in
    (groups, groups_are, ap (λ gs. table_of front.0 (columns.0, gs)) kept ∙ ap (table_of front.0) paired ∙ whole_is)

-- a header and the rows of the row groups behind it are the first rows of the table
pub table_written : (most : ℕ) (whole start : List ℕ) (front : Front) (mid : List ℕ) (columns : List Column) (end : List ℕ) (given : List Column) (rows : ℕ) (bytes : List ℕ) (a b c : Option (List ℕ)) → front_at start ≡ Ok (front, mid) → all_columns_at mid ≡ Ok (columns, end)
    → rows ≡ front.place.rows → given ≡ columns → bytes ≡ whole → Appends a b (row_text default_writer (map (λ c. c.name) given))
    → ((groups : List GroupLayout) (rest : List ℕ) → groups_at bytes given (group_sizes rows) end ≡ Ok (groups, rest) → Appends b c (records_text (take most (rows_in groups))))
    → (t : TableLayout) (rest : List ℕ) → table_at whole start ≡ Ok (t, rest) → Appends a c (rows_text most t)
table_written most whole start front mid columns end given rows bytes a b c one two many same kept header appended t rest is =
    let (groups, groups_are, made) = table_rows whole start (front, mid) (columns, end) t rest one two is in
    let here : groups_at bytes given (group_sizes rows) end ≡ Ok groups = (λ i. groups_at (kept i) (same i) (group_sizes (many i)) end) ∙ groups_are in
    let named = subst (λ cs. Appends a b (row_text default_writer (map (λ c. c.name) cs))) same header in
    subst (λ x. Appends a c (rows_text most x)) made (behind_header a b c (map (λ c. c.name) columns) (take most (rows_in groups.0)) named (appended groups.0 groups.1 here))
