-- Blocks at locations of the bytes: as they are read, and as they are lent.
use Rattle.std.proofs.Common.{◌≡◌, ℕ, zero, suc, ◌+◌, ◌-◌, ◌<◌, Bool, true, false, cond, Option, Some, None, List, [], ◌∷◌, ◌++◌, length, map, get_or, take, drop, All, Ok, refl, sym, ap, subst, ◌∙◌, append_assoc, arith}
use Rattle.std.specs.List.{AllByRecursion}
use Rattle.std.proofs.lemmas.List.{map-append, get_or-map, length-map, length-append, take_at, drop_at}
use Rattle.std.proofs.lemmas.List.Elements.{All-append, All-from_recursion, All-get_or}
use Rattle.meaning.specs.declared.catalog.Column.{Column}
use Rattle.blocks.specs.declared.kind.Kind.{Kind}
use Rattle.blocks.specs.Block.{Block, is_block}
use Rattle.wire.specs.Reading.{bytes_at, number_at}
use Rattle.wire.proofs.Numbers.{bytes_parts, number_parts}
use Rattle.fragment_file.specs.declared.header.Header.{Header}
use Rattle.fragment_file.specs.declared.view.BlockLocation.{BlockLocation}
use Rattle.fragment_file.specs.Fragment.{AreBlocks, AreGroups, group_sizes, no_block}
use Rattle.fragment_file.specs.FragmentReading.{block_of}
use Rattle.fragment_file.specs.View.{rows_of, IsGroup, block_in, IsWithin, IsGroupAt, IsFragmentAt, IsEnd, AreTaken, AreGroupsTaken}

abbrev some : Block → Option Block
some b = Some b

some_is : (x y : Block) → some x ≡ some y → x ≡ y
some_is x y e = cc

abbrev payload_in : Block → List ℕ
payload_in b = b.payload

abbrev made_of : Kind → Column → ℕ → List ℕ → Block
made_of k c rows payload = record { kind = k; col_type = c.col_type; nullable = c.nullable; rows = rows; payload = payload }

-- ---- what is left of the bytes

pub end_behind : (bytes rest text after : List ℕ) → IsEnd bytes rest → rest ≡ text ++ after → IsEnd bytes after
end_behind bytes rest text after e same =
    record { front = e.front ++ text; parts = e.parts ∙ ap (λ (t : List ℕ). e.front ++ t) same ∙ sym (append_assoc e.front text after) }

-- a block's kind and length, and then its payload
pub block_behind : (bytes r0 : List ℕ) (code : ℕ) (r1 : List ℕ) (n : ℕ) (r2 payload after : List ℕ) → number_at 1 r0 ≡ Ok (code, r1) → number_at 4 r1 ≡ Ok (n, r2) → bytes_at n r2 ≡ Ok (payload, after)
    → IsEnd bytes r0 → IsEnd bytes (payload ++ after)
block_behind bytes r0 code r1 n r2 payload after kind count taken e =
    let one = end_behind bytes r0 (take 1 r0) r1 e (number_parts 1 r0 code r1 kind) in
    let two = end_behind bytes r1 (take 4 r1) r2 one (number_parts 4 r1 n r2 count) in
    subst (IsEnd bytes) (bytes_parts n r2 payload after taken) two

pub number_behind : (bytes rest : List ℕ) (n x : ℕ) (after : List ℕ) → number_at n rest ≡ Ok (x, after) → IsEnd bytes rest → IsEnd bytes after
number_behind bytes rest n x after taken e = end_behind bytes rest (take n rest) after e (number_parts n rest x after taken)

-- ---- one location

-- where a payload begins and ends that stands right before the end of the bytes
pub ends_at : (bytes payload rest : List ℕ) (e : IsEnd bytes (payload ++ rest)) → length bytes - length rest ≡ length e.front + length payload
ends_at bytes payload rest e =
    let all : length bytes ≡ length (e.front ++ (payload ++ rest)) = ap length e.parts in
    omega (arith, all, length-append e.front (payload ++ rest), length-append payload rest)

pub payload_at : (bytes payload rest : List ℕ) (s t : ℕ) → IsEnd bytes (payload ++ rest) → t ≡ length bytes - length rest → s ≡ t - length payload → take (t - s) (drop s bytes) ≡ payload
payload_at bytes payload rest s t e is_end is_start =
    let ends = ends_at bytes payload rest e in
    let start : length e.front ≡ s = omega (arith, ends, is_end, is_start) in
    let count : length payload ≡ t - s = omega (arith, ends, is_end, is_start) in
    ap (λ (bs : List ℕ). take (t - s) (drop s bs)) e.parts ∙ ap (take (t - s)) (drop_at e.front (payload ++ rest) s start) ∙ take_at payload rest (t - s) count

pub location_within : (bytes : List ℕ) (p : BlockLocation) (payload rest : List ℕ) → IsEnd bytes (payload ++ rest) → p.end ≡ length bytes - length rest → p.start ≡ p.end - length payload → IsWithin bytes p
location_within bytes p payload rest e is_end is_start = record { ordered = omega (arith, is_start); within = omega (arith, is_end) }

pub location_is : (bytes : List ℕ) (p : BlockLocation) (b : Block) (rest : List ℕ) → IsEnd bytes (b.payload ++ rest) → p.kind ≡ b.kind → p.col_type ≡ b.col_type → p.nullable ≡ b.nullable → p.rows ≡ b.rows
    → p.end ≡ length bytes - length rest → p.start ≡ p.end - length b.payload → block_in bytes p ≡ b
unfolding block_in
location_is bytes p b rest e kinds types nulls rows is_end is_start =
    let payload = payload_at bytes b.payload rest p.start p.end e is_end is_start in
    λ i. record { kind = kinds i; col_type = types i; nullable = nulls i; rows = rows i; payload = payload i }

block_case : (t : Bool) (made b : Block) → cond t (some made) None ≡ some b → b.payload ≡ made.payload
block_case true made b e = ap payload_in (sym (some_is made b e))
block_case false made b e = absurd cc

-- the payload of a block that was found sound
pub block_payload : (o : Option Kind) (c : Column) (rows : ℕ) (payload : List ℕ) (b : Block) → block_of o c rows payload ≡ Some b → b.payload ≡ payload
block_payload None c rows payload b e = absurd cc
block_payload (Some k) c rows payload b e = block_case (is_block (made_of k c rows payload)) (made_of k c rows payload) b e

-- ---- locations one after the other

pub mapped_push : {X Y : Type 0} (f : X → Y) (xs : List X) (x : X) (y : Y) → f x ≡ y → map f (xs ++ x ∷ []) ≡ map f xs ++ y ∷ []
mapped_push f xs x y e = map-append f xs (x ∷ []) ∙ ap (λ z. map f xs ++ z ∷ []) e

all_push : {X : Type 0} (P : X → Type 0) (xs : List X) (x : X) → All P xs → P x → All P (xs ++ x ∷ [])
all_push P xs x all one = All-append P xs (x ∷ []) all (All-from_recursion P (x ∷ []) (one, tt))

pub none_taken : (bytes rest : List ℕ) → IsEnd bytes rest → AreTaken bytes [] rest
none_taken bytes rest e = record { within = All-from_recursion (IsWithin bytes) [] tt; end = e }

pub taken_push : (bytes : List ℕ) (ps : List BlockLocation) (p : BlockLocation) (rest payload after : List ℕ) → AreTaken bytes ps rest → IsWithin bytes p → IsEnd bytes (payload ++ after) → AreTaken bytes (ps ++ p ∷ []) after
taken_push bytes ps p rest payload after taken one e =
    record { within = all_push (IsWithin bytes) ps p taken.within one; end = end_behind bytes (payload ++ after) payload after e refl }

pub no_groups_taken : (bytes rest : List ℕ) → IsEnd bytes rest → AreGroupsTaken bytes [] rest
no_groups_taken bytes rest e = record { within = All-from_recursion (All (IsWithin bytes)) [] tt; end = e }

pub groups_push : (bytes : List ℕ) (gs : List (List BlockLocation)) (g : List BlockLocation) (rest after : List ℕ) → AreGroupsTaken bytes gs rest → AreTaken bytes g after → AreGroupsTaken bytes (gs ++ g ∷ []) after
groups_push bytes gs g rest after taken one = record { within = all_push (All (IsWithin bytes)) gs g taken.within one.within; end = one.end }

-- ---- what is lent

blocks_equal : (cs : List Column) (n : ℕ) (bs : List Block) → AreBlocks cs n bs → AllByRecursion (λ b. is_block b ≡ true) bs × AllByRecursion (λ b. b.rows ≡ n) bs
blocks_equal [] n [] are = (tt, tt)
blocks_equal [] n (b ∷ bs) are = absurd are
blocks_equal (c ∷ cs) n [] are = absurd are
blocks_equal (c ∷ cs) n (b ∷ bs) are = let others = blocks_equal cs n bs are.1 in ((are.0.sound, others.0), (are.0.rows, others.1))

rows_are : (n : ℕ) (all bs : List Block) → rows_of all ≡ n → AllByRecursion (λ b. b.rows ≡ n) bs → AllByRecursion (λ b. b.rows ≡ rows_of all) bs
rows_are n all [] first rows = tt
rows_are n all (b ∷ bs) first rows = (rows.0 ∙ sym first, rows_are n all bs first rows.1)

equal_rows : (n : ℕ) (bs : List Block) → AllByRecursion (λ b. b.rows ≡ n) bs → AllByRecursion (λ b. b.rows ≡ rows_of bs) bs
equal_rows n [] rows = tt
equal_rows n (b ∷ bs) rows = rows_are n (b ∷ bs) (b ∷ bs) rows.0 rows

pub blocks_group : (cs : List Column) (n : ℕ) (bs : List Block) → AreBlocks cs n bs → IsGroup bs
blocks_group cs n bs are =
    let both = blocks_equal cs n bs are in
    record { sound = All-from_recursion (λ b. is_block b ≡ true) bs both.0; equal = All-from_recursion (λ b. b.rows ≡ rows_of bs) bs (equal_rows n bs both.1) }

group_of : (cs : List Column) (sizes : List ℕ) (gs : List (List Block)) (k : ℕ) → AreGroups cs sizes gs → k < length gs → IsGroup (get_or gs k [])
group_of cs [] [] k are lt = absurd (omega arith)
group_of cs [] (g ∷ gs) k are lt = absurd are
group_of cs (n ∷ ns) [] k are lt = absurd are
group_of cs (n ∷ ns) (g ∷ gs) zero are lt = blocks_group cs n g are.0
group_of cs (n ∷ ns) (g ∷ gs) (suc k) are lt = group_of cs ns gs k are.1 (omega arith)

pub group_at_index : (h : Header) (bytes : List ℕ) (groups : List (List BlockLocation)) (k : ℕ) (d : List BlockLocation) → IsFragmentAt h bytes groups → k < length groups → IsGroupAt bytes (get_or groups k d)
group_at_index h bytes groups k d is lt =
    let blocks = map (block_in bytes) in
    let count : k < length (map blocks groups) = omega (arith, lt, length-map groups blocks) in
    let group = group_of h.columns (group_sizes h.rows) (map blocks groups) k is.fragment.groups count in
    record { within = All-get_or (All (IsWithin bytes)) groups k d lt is.within; group = subst IsGroup (get_or-map blocks groups k d [] lt) group }

pub block_within : (bytes : List ℕ) (locations : List BlockLocation) (i : ℕ) (d : BlockLocation) → IsGroupAt bytes locations → i < length locations → IsWithin bytes (get_or locations i d)
block_within bytes locations i d is lt = All-get_or (IsWithin bytes) locations i d lt is.within

pub block_sound : (bytes : List ℕ) (locations : List BlockLocation) (i : ℕ) (d : BlockLocation) → IsGroupAt bytes locations → i < length locations → is_block (block_in bytes (get_or locations i d)) ≡ true
block_sound bytes locations i d is lt =
    let count : i < length (map (block_in bytes) locations) = omega (arith, lt, length-map locations (block_in bytes)) in
    subst (λ (b : Block). is_block b ≡ true) (get_or-map (block_in bytes) locations i d no_block lt) (All-get_or (λ b. is_block b ≡ true) (map (block_in bytes) locations) i no_block count is.group.sound)

pub rows_first : (bytes : List ℕ) (locations : List BlockLocation) (d : BlockLocation) → 0 < length locations → (get_or locations 0 d).rows ≡ rows_of (map (block_in bytes) locations)
unfolding block_in
rows_first bytes [] d lt = absurd (omega arith)
rows_first bytes (p ∷ ps) d lt = refl
