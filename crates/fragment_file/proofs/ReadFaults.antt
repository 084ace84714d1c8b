-- Reading never ends in the fault of a device.
use Rattle.std.proofs.Common.{◌≡◌, ℕ, zero, suc, ◌==◌, ◌&&◌, Bool, true, false, cond, List, [], ◌∷◌, Option, Some, None, Result, Ok, Err, subst}
use Rattle.std.specs.Prelude.{IfErr, nat_le, not}
use Rattle.meaning.specs.declared.catalog.Column.{Column}
use Rattle.meaning.specs.Catalog.{is_name}
use Rattle.meaning.specs.Limits.{max_columns, max_fragments, max_name_bytes, max_rows}
use Rattle.blocks.specs.Block.{Block}
use Rattle.wire.specs.declared.fault.WireFault.{WireFault}
use Rattle.wire.specs.declared.fault.WireFault.TheVariants as of_wire
use Rattle.meaning.specs.Wanting.{GivesIfMemory}
use Rattle.wire.specs.Reading.{◌>>=◌, Read, bytes_at, number_at, repeat_at, behind_magic, sealed_end}
use Rattle.fragment_file.specs.declared.fault.FileFault.{FileFault}
use Rattle.fragment_file.specs.declared.fault.FileFault.TheVariants as refusal
use Rattle.fragment_file.specs.Fault.{IsReadFault, from_wire}
use Rattle.fragment_file.specs.Fragment.{fragment_magic, group_sizes}
use Rattle.fragment_file.specs.FragmentReading.{within, formed, name_at, column_at, columns_at, header_at, is_named, kind_of, block_of, sound, block_at, blocks_at, group_at, groups_at, read_fragment}
use Rattle.fragment_file.specs.CutFile.{cut_magic, length_at, read_cut_file}

pub record Returned {X : Type 0} (read : Result X FileFault) : Type 0 where
  pub returned : IfErr read IsReadFault

given : {X : Type 0} (x : X) → Returned {X = X} (Ok x)
given x = record { returned = tt }

refused : {X : Type 0} (e : FileFault) → IsReadFault e → Returned {X = X} (Err e)
refused e is = record { returned = is }

-- ---- steps

steps : {X Y : Type 0} (r : Result X FileFault) (f : X → Result Y FileFault) → Returned r → ((x : X) → Returned (f x)) → Returned (r >>= f)
steps (Ok x) f p q = q x
steps (Err e) f p q = refused e p.returned

wire_returned : {X : Type 0} (r : Result X WireFault) → Returned (from_wire r)
wire_returned (Ok x) = given x
wire_returned (Err of_wire.Magic) = refused refusal.Magic tt
wire_returned (Err of_wire.Truncated) = refused refusal.Truncated tt
wire_returned (Err of_wire.NotUtf8) = refused refusal.Header tt
wire_returned (Err of_wire.TrailingBytes) = refused refusal.TrailingBytes tt
wire_returned (Err of_wire.Seal) = refused refusal.Seal tt

-- a reader of `wire`, and what follows
read_returned : {X Y : Type 0} (r : Result X WireFault) (f : X → Result Y FileFault) → ((x : X) → Returned (f x)) → Returned (from_wire r >>= f)
read_returned r f q = steps (from_wire r) f (wire_returned r) q

within_returned : {X : Type 0} (b : Bool) (x : X) → Returned (within b x)
within_returned true x = given x
within_returned false x = refused refusal.Limit tt

formed_returned : {X : Type 0} (b : Bool) (x : X) → Returned (formed b x)
formed_returned true x = given x
formed_returned false x = refused refusal.Header tt

one_of_two : {X : Type 0} (a b : Bool) (x y : X) → Returned (cond a (Ok x) (cond b (Ok y) (Err refusal.Header)))
one_of_two true b x y = given x
one_of_two false true x y = given y
one_of_two false false x y = refused refusal.Header tt

repeat_returned : {X : Type 0} (part : List ℕ → Read FileFault X) → ((bytes : List ℕ) → Returned (part bytes)) → (n : ℕ) (bytes : List ℕ) → Returned (repeat_at part n bytes)
unfolding repeat_at
repeat_returned part returned zero bytes = given _
repeat_returned part returned (suc n) bytes = steps _ _ (returned bytes) (λ first. steps _ _ (repeat_returned part returned n first.1) (λ others. given _))

-- ---- headers

name_returned : (bytes : List ℕ) → Returned (name_at bytes)
unfolding name_at
name_returned bytes =
    read_returned (number_at 2 bytes) _ (λ n. steps _ _ (within_returned (nat_le 1 n.0 && nat_le n.0 max_name_bytes) n)
    (λ n. read_returned (bytes_at n.0 n.1) _ (λ name. formed_returned (is_name name.0) name)))

column_returned : (earlier : List Column) (bytes : List ℕ) → Returned (column_at earlier bytes)
unfolding column_at
column_returned earlier bytes =
    steps _ _ (name_returned bytes) (λ name. steps _ _ (formed_returned (not (is_named name.0 earlier)) name)
    (λ name. read_returned (number_at 1 name.1) _ (λ t. steps _ _ (one_of_two (t.0 == 1) (t.0 == 2) _ _)
    (λ col_type. read_returned (number_at 1 t.1) _ (λ f. steps _ _ (one_of_two (f.0 == 0) (f.0 == 1) _ _) (λ nullable. given _))))))

columns_returned : (n : ℕ) (earlier : List Column) (bytes : List ℕ) → Returned (columns_at n earlier bytes)
unfolding columns_at
columns_returned zero earlier bytes = given _
columns_returned (suc n) earlier bytes = steps _ _ (column_returned earlier bytes) (λ c. columns_returned n _ _)

header_returned : (bytes : List ℕ) → Returned (header_at bytes)
unfolding header_at
header_returned bytes =
    read_returned (number_at 8 bytes) _ (λ load. steps _ _ (name_returned load.1) (λ table. read_returned (number_at 4 table.1) _ (λ k. read_returned (number_at 8 k.1) _
    (λ first. read_returned (number_at 4 first.1) _ (λ rows. steps _ _ (within_returned (nat_le rows.0 max_rows) rows)
    (λ rows. read_returned (number_at 2 rows.1) _ (λ n. steps _ _ (within_returned (nat_le 1 n.0 && nat_le n.0 max_columns) n)
    (λ n. steps _ _ (columns_returned n.0 [] n.1) (λ columns. given _)))))))))

-- ---- row groups

sound_returned : (group column : ℕ) (o : Option Block) → Returned (sound group column o)
sound_returned group column None = refused (refusal.Block group column) tt
sound_returned group column (Some b) = given b

block_returned : (group column : ℕ) (c : Column) (rows : ℕ) (bytes : List ℕ) → Returned (block_at group column c rows bytes)
unfolding block_at
block_returned group column c rows bytes =
    read_returned (number_at 1 bytes) _ (λ k. read_returned (number_at 4 k.1) _ (λ n. read_returned (bytes_at n.0 n.1) _
    (λ payload. steps _ _ (sound_returned group column (block_of (kind_of k.0) c rows payload.0)) (λ b. given _))))

blocks_returned : (group column : ℕ) (cs : List Column) (rows : ℕ) (bytes : List ℕ) → Returned (blocks_at group column cs rows bytes)
unfolding blocks_at
blocks_returned group column [] rows bytes = given _
blocks_returned group column (c ∷ cs) rows bytes = steps _ _ (block_returned group column c rows bytes) (λ b. steps _ _ (blocks_returned group (suc column) cs rows b.1) (λ others. given _))

group_returned : (group : ℕ) (cs : List Column) (rows : ℕ) (bytes : List ℕ) → Returned (group_at group cs rows bytes)
unfolding group_at
group_returned group cs rows bytes = read_returned (number_at 4 bytes) _ (λ n. steps _ _ (formed_returned (n.0 == rows) n) (λ n. blocks_returned group 0 cs rows n.1))

groups_returned : (group : ℕ) (cs : List Column) (sizes : List ℕ) (bytes : List ℕ) → Returned (groups_at group cs sizes bytes)
unfolding groups_at
groups_returned group cs [] bytes = given _
groups_returned group cs (n ∷ sizes) bytes = steps _ _ (group_returned group cs n bytes) (λ g. steps _ _ (groups_returned (suc group) cs sizes g.1) (λ others. given _))

-- ---- the whole

pub fragment_returned : (bytes : List ℕ) → Returned (read_fragment bytes)
unfolding read_fragment
fragment_returned bytes =
    read_returned (behind_magic fragment_magic bytes) _ (λ rest. steps _ _ (header_returned rest) (λ header. steps _ _ (groups_returned 0 header.0.columns (group_sizes header.0.rows) header.1)
    (λ groups. read_returned (bytes_at 32 groups.1) _ (λ seal. read_returned (sealed_end bytes seal.0 seal.1) _ (λ end. given _)))))

length_returned : (bytes : List ℕ) → Returned (length_at bytes)
unfolding length_at
length_returned bytes = read_returned (number_at 4 bytes) _ (λ n. within_returned (nat_le n.0 max_rows) n)

pub cut_returned : (bytes : List ℕ) → Returned (read_cut_file bytes)
unfolding read_cut_file
cut_returned bytes =
    read_returned (behind_magic cut_magic bytes) _ (λ rest. read_returned (number_at 8 rest) _ (λ load. read_returned (number_at 4 load.1) _
    (λ n. steps _ _ (within_returned (nat_le 1 n.0 && nat_le n.0 max_fragments) n) (λ n. steps _ _ (repeat_returned length_at length_returned n.0 n.1)
    (λ cut. read_returned (bytes_at 32 cut.1) _ (λ seal. read_returned (sealed_end bytes seal.0 seal.1) _ (λ end. given _)))))))

device_or_memory : refusal.Device ≡ refusal.Memory → ⊥
device_or_memory e = cc

-- what a call gave that reads so, unless memory ran out
pub returned_by : {X Y : Type 0} (view : X → Y) (r : Result X FileFault) (read : Result Y FileFault) → GivesIfMemory refusal.Memory view r read → Returned read → IfErr r IsReadFault
returned_by view (Ok x) read is returned = tt
returned_by view (Err refusal.Memory) read is returned = tt
returned_by view (Err refusal.Magic) read is returned = tt
returned_by view (Err refusal.Truncated) read is returned = tt
returned_by view (Err refusal.TrailingBytes) read is returned = tt
returned_by view (Err refusal.Seal) read is returned = tt
returned_by view (Err (refusal.Block group column)) read is returned = tt
returned_by view (Err refusal.Header) read is returned = tt
returned_by view (Err refusal.Limit) read is returned = tt
returned_by view (Err refusal.Device) read is returned = (subst Returned (is device_or_memory) returned).returned
