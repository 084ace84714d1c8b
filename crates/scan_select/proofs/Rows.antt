-- The rows that a batch has the columns of.
use Rattle.std.proofs.Common.{◌≡◌, ℕ, zero, suc, ◌+◌, ◌≤◌, ◌<◌, Bool, false, true, eqb, List, [], ◌∷◌, ◌++◌, length, Option, Some, None, get_or, map, take, drop, refl, ap, sym, ◌∙◌, subst, arith}
use Rattle.std.specs.Prelude.{nat_le, All}
use Rattle.std.specs.List.{range_with_len, AllByRecursion}
use Rattle.std.proofs.lemmas.List.Elements.{All-from_recursion, recursion_from_All}
use Rattle.std.proofs.lemmas.List.{length-map}
use Rattle.std.proofs.lemmas.List.FromFn.{length-range_with_len}
use Rattle.std.proofs.lemmas.Simd.{pick_l-range_with_len}
use Rattle.meaning.specs.declared.value.Value.{Value}
use Rattle.meaning.specs.declared.value.Value.TheVariants.{Null}
use Rattle.meaning.specs.declared.outcome.Outcome.{Outcome}
use Rattle.meaning.specs.declared.outcome.Outcome.TheVariants as gives
use Rattle.meaning.specs.Order.{column}
use Rattle.meaning.specs.Joined.{joined_row}
use Rattle.meaning.specs.References.{FactColumn, referenced}
use Rattle.blocks.specs.Block.{Block, is_block, values_of}
use Rattle.meaning.specs.declared.catalog.Column.{Column}
use Rattle.std.proofs.lemmas.Bool.{and_parts, leb-true}
use Rattle.fragment_file.specs.Fragment.{AreBlocks, no_block}
use Rattle.fragment_file.specs.declared.header.Header.{Header}
use Rattle.fragment_file.specs.Lent.{AreTypedBlocks, blocks_in}
use Rattle.fragment_file.specs.View.{rows_of, IsGroup}
use Rattle.fragment_file.proofs.RowLaws.{column_of_row, length-values}
use Rattle.vectors.specs.declared.batch.ColumnReference.{ColumnReference}
use Rattle.vectors.specs.declared.batch.BatchColumn.{BatchColumn}
use Rattle.vectors.specs.Vector.{BatchSpec, AreRowsOf, IsColumnOf, outcomes_of, reference_of}
use Rattle.fragment_file.specs.Rows.{row_in}
use Rattle.scan_select.specs.Pieces.{Piece, piece_now, rows_of_piece}
use Rattle.scan_select.specs.Scanned.{ScanSpec, IsColumnAt, AreColumnsAt, AddsColumns, IsBatchOf, GivesBatch, GivesStanding, GivesUnpacked, fact_rows, header_types, unpacked}
use Rattle.scan_select.specs.declared.scan.ScanBatch.{ScanBatch}
use Rattle.scan_select.specs.declared.scan.Standing.{Standing}
use Rattle.scan_select.specs.declared.buffers.ColumnBuffer.{ColumnBuffer}
use Rattle.scan_select.specs.Buffers.{IsPosition, columns_of}
use Rattle.scan_select.specs.Groups.{current_rows}
use Rattle.primitives.specs.Fitting.{AreTypedRows}
use Rattle.scan_select.proofs.Filling.{none_packed, unpacked_within}
use Rattle.scan_select.proofs.TypedBatches.{typed_batch, typed_group}

abbrev outcome_at : List Block → ℕ → ℕ → Outcome
outcome_at group p i = gives.Value (get_or (values_of (get_or group p no_block)) i Null)

rows_one_by_one : (group : List Block) (p : ℕ) (is : List ℕ) → p < length group
    → map (λ row. gives.Value (referenced row (FactColumn p))) (map (λ row. joined_row row []) (map (row_in group) is)) ≡ map (outcome_at group p) is
rows_one_by_one group p [] below = refl
rows_one_by_one group p (i ∷ is) below =
    let first : gives.Value (column (row_in group i) p) ≡ outcome_at group p i = ap gives.Value (column_of_row group i p below) in
    let rest = rows_one_by_one group p is below in
    ap (λ (o : Outcome). o ∷ map (λ row. gives.Value (referenced row (FactColumn p))) (map (λ row. joined_row row []) (map (row_in group) is))) first
    ∙ ap (λ (os : List Outcome). outcome_at group p i ∷ os) rest

values_one_by_one : (vs : List Value) (is : List ℕ) → map gives.Value (map (λ i. get_or vs i Null) is) ≡ map (λ i. gives.Value (get_or vs i Null)) is
values_one_by_one vs [] = refl
values_one_by_one vs (i ∷ is) = ap (λ (os : List Outcome). gives.Value (get_or vs i Null) ∷ os) (values_one_by_one vs is)

-- the values of a column from a row on are those that the rows have in it
column_is : (group : List Block) (first rows p : ℕ) → is_block (get_or group p no_block) ≡ true → p < length group → first + rows ≤ (get_or group p no_block).rows
    → map gives.Value (take rows (drop first (values_of (get_or group p no_block))))
    ≡ map (λ row. gives.Value (referenced row (FactColumn p))) (fact_rows (record { group = group; first = first; rows = rows }))
column_is group first rows p sound below within =
    let vs : List Value = values_of (get_or group p no_block) in
    let count = length-values (get_or group p no_block) sound in
    let window : map (λ i. get_or vs i Null) (range_with_len first rows) ≡ take rows (drop first vs) = pick_l-range_with_len Null vs first rows (omega (arith, count, within)) in
    ap (map gives.Value) (sym window) ∙ values_one_by_one vs (range_with_len first rows) ∙ sym (rows_one_by_one group p (range_with_len first rows) below)

pub all_at : {X : Type 0} (P : X → Type 0) (xs : List X) (i : ℕ) (d : X) → AllByRecursion P xs → i < length xs → P (get_or xs i d)
all_at P [] i d all below = absurd (omega arith)
all_at P (x ∷ xs) zero d all below = all.0
all_at P (x ∷ xs) (suc i) d all below = all_at P xs i d all.1 (omega (arith, below))

has_rows : (group : List Block) (first rows p : ℕ) (c : BatchColumn) → IsGroup group → p < length group → first + rows ≤ rows_of group → IsColumnAt group first rows p c
    → IsColumnOf (fact_rows (record { group = group; first = first; rows = rows })) c
has_rows group first rows p c sound below within at =
    let block = all_at (λ b. is_block b ≡ true) group p no_block (recursion_from_All (λ b. is_block b ≡ true) group sound.sound) below in
    let equal = all_at (λ b. b.rows ≡ rows_of group) group p no_block (recursion_from_All (λ b. b.rows ≡ rows_of group) group sound.equal) below in
    let values = at.values ∙ column_is group first rows p block below (omega (arith, within, equal)) in
    subst (λ (q : ColumnReference). outcomes_of c.lanes ≡ map (λ row. gives.Value (referenced row (reference_of q))) (fact_rows (record { group = group; first = first; rows = rows }))) (sym at.reference) values

all_have_rows : (group : List Block) (first rows : ℕ) (wanted : List ℕ) (columns : List BatchColumn) → IsGroup group → AllByRecursion (λ p. p < length group) wanted → first + rows ≤ rows_of group
    → AreColumnsAt group first rows wanted columns → AllByRecursion (IsColumnOf (fact_rows (record { group = group; first = first; rows = rows }))) columns
all_have_rows group first rows [] [] sound below within are = tt
all_have_rows group first rows [] (c ∷ cs) sound below within are = absurd are
all_have_rows group first rows (p ∷ ps) [] sound below within are = absurd are
all_have_rows group first rows (p ∷ ps) (c ∷ cs) sound below within are =
    (has_rows group first rows p c sound below.0 within are.0, all_have_rows group first rows ps cs sound below.1 within are.1)

-- the columns of a row group that are read are those of its rows
pub batch_has_rows : (group : List Block) (first rows : ℕ) (wanted : List ℕ) (columns : List BatchColumn) → IsGroup group → All (λ p. p < length group) wanted → first + rows ≤ rows_of group
    → AreColumnsAt group first rows wanted columns → AreRowsOf (record { rows = rows; columns = columns }) (fact_rows (record { group = group; first = first; rows = rows }))
batch_has_rows group first rows wanted columns sound below within are = record {
  counted = length-map (rows_of_piece (record { group = group; first = first; rows = rows })) (λ row. joined_row row [])
      ∙ length-map (range_with_len first rows) (row_in group) ∙ length-range_with_len first rows;
  columns = All-from_recursion (IsColumnOf (fact_rows (record { group = group; first = first; rows = rows }))) columns
      (all_have_rows group first rows wanted columns sound (recursion_from_All (λ p. p < length group) wanted below) within are);
}

first_part : (b : Block) → is_block b ≡ true → nat_le 1 b.rows ≡ true
first_part b sound = (and_parts _ _ sound).0

-- a row group of a file with a column has a row
pub some_rows : (cs : List Column) (n : ℕ) (bs : List Block) → AreBlocks cs n bs → 1 ≤ length cs → 1 ≤ n
some_rows [] n bs are some = absurd (omega (arith, some))
some_rows (c ∷ cs) n [] are some = absurd are
some_rows (c ∷ cs) n (b ∷ bs) are some =
    let rows = leb-true 1 b.rows (first_part b are.0.sound) in
    let same = are.0.rows in
    omega (arith, rows, same)

-- the batch of the rows that stand
pub batch_gives : {G : Type 0} (scan : ScanSpec G) (packed : List Bool) (h : Header) (current : Option (List Block)) (most group_rows first rows : ℕ) (buffers : List ColumnBuffer) (b : ScanBatch) (old : BatchSpec) → current ≡ Some (blocks_in b.group)
    → scan.header ≡ h → scan.at ≡ piece_now current first rows → scan.columns ≡ columns_of buffers → IsPosition h.columns most current group_rows first rows buffers → length (blocks_in b.group) ≡ length h.columns
    → AreBlocks h.columns (rows_of (blocks_in b.group)) (blocks_in b.group) → AreTypedBlocks h.columns (blocks_in b.group) → IsGroup (blocks_in b.group) → eqb rows 0 ≡ false
    → b.first_row ≡ first → old ≡ record { rows = rows; columns = [] } → AddsColumns (blocks_in b.group) first (unpacked packed (columns_of buffers)) old b.batch → GivesUnpacked packed scan (Some b)
batch_gives scan packed h current most group_rows first rows buffers b old stands under at same position count blocks typed sound some first_is fresh adds =
    let piece : Piece = record { group = blocks_in b.group; first = first; rows = rows } in
    let wanted : List ℕ = unpacked packed (columns_of buffers) in
    let below : All (λ p. p < length h.columns) wanted = unpacked_within (length h.columns) packed (columns_of buffers) position.columns_within in
    let now : scan.at ≡ Some piece = at ∙ rw (stands, some) refl in
    let columns_within : All (λ p. p < length (blocks_in b.group)) wanted = subst (λ (k : ℕ). All (λ p. p < k) wanted) (sym count) below in
    let rows_are : group_rows ≡ rows_of (blocks_in b.group) = position.group_rows_are ∙ ap current_rows stands in
    let within : first + rows ≤ rows_of (blocks_in b.group) = let h = position.within in omega (arith, rows_are, h) in
    let old_rows : old.rows ≡ rows = ap (λ (x : BatchSpec). x.rows) fresh in
    let are : AreColumnsAt (blocks_in b.group) first rows wanted adds.more = subst (λ (k : ℕ). AreColumnsAt (blocks_in b.group) first k wanted adds.more) old_rows adds.are in
    let all : b.batch ≡ record { rows = rows; columns = adds.more } =
    λ i. record { rows = (adds.rows ∙ old_rows) i; columns = (adds.columns ∙ ap (λ (x : BatchSpec). x.columns ++ adds.more) fresh) i } in
    let of : IsBatchOf wanted piece b.batch = subst (IsBatchOf wanted piece) (sym all) (record { rows = batch_has_rows (blocks_in b.group) first rows wanted adds.more sound columns_within within are; columns = are }) in (
      piece,
      record {
        stands = now;
        group = refl;
        first_row = first_is;
        batch = subst (λ (ps : List ℕ). IsBatchOf (unpacked packed ps) piece b.batch) (sym same) of;
        typed = subst (λ (x : Header). AreTypedRows (header_types x) b.batch (fact_rows piece)) (sym under)
            (typed_batch h (rows_of (blocks_in b.group)) (blocks_in b.group) first rows wanted b.batch blocks (typed_group h.columns (blocks_in b.group) typed) below of);
        within = within;
        blocks = subst (λ (x : Header). AreBlocks x.columns (rows_of (blocks_in b.group)) (blocks_in b.group)) (sym under) blocks;
      },
    )

-- with no column left out it is that of all columns
pub gives_all : {G : Type 0} (scan : ScanSpec G) (b : Option ScanBatch) → GivesUnpacked [] scan b → GivesBatch scan b
gives_all scan None none = none
gives_all scan (Some b) gives =
    (gives.0, record { stands = gives.1.stands; group = gives.1.group; first_row = gives.1.first_row; batch = subst (λ (ps : List ℕ). IsBatchOf ps gives.0 b.batch) (none_packed scan.columns) gives.1.batch; typed = gives.1.typed; within = gives.1.within; blocks = gives.1.blocks })

-- where the rows stand
pub stands_in : {G : Type 0} (scan : ScanSpec G) (current : Option (List Block)) (first rows : ℕ) (s : Standing) → current ≡ Some (blocks_in s.group) → scan.at ≡ piece_now current first rows → eqb rows 0 ≡ false → s.first_row ≡ first
    → GivesStanding scan (Some s)
stands_in scan current first rows s stands at some first_is =
    (record { group = blocks_in s.group; first = first; rows = rows }, record { stands = at ∙ rw (stands, some) refl; group = refl; first_row = first_is })
