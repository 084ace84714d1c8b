-- The blocks of a source one after the other.
use Rattle.std.specs.Prelude.{◌≡◌, ℕ, ◌==◌, ◌-◌, ◌≤◌, ◌<◌, ◌^◌, List, [], ◌∷◌, ◌++◌, length, map, take, drop, All, Option, Result, Ok, Err, IfOk}
use Rattle.std.proofs.Common.{refl, sym, ap, subst, ◌∙◌, arith}
use Rattle.std.specs.List.{AllByRecursion}
use Rattle.std.proofs.lemmas.List.{take-append-le, drop-append-le, length-drop, map-append}
use Rattle.std.proofs.lemmas.List.Elements.{All-append, All-from_recursion, recursion_from_All}
use Rattle.meaning.specs.declared.catalog.Column.{Column}
use Rattle.blocks.specs.Block.{Block}
use Rattle.wire.specs.Reading.{◌>>=◌, Read, Reads, bytes_at, number_at}
use Rattle.fragment_file.specs.declared.fault.FileFault.{FileFault}
use Rattle.fragment_file.specs.declared.view.BlockLocation.{BlockLocation}
use Rattle.fragment_file.specs.Fragment.{AreBlocks, IsBlockOf}
use Rattle.fragment_file.specs.Fault.{from_wire}
use Rattle.fragment_file.specs.FragmentReading.{block_at, block_of, blocks_at, formed, group_at, kind_of, sound}
use Rattle.fragment_file.specs.View.{IsWithin, block_in}
use Rattle.fragment_file.proofs.GroupLaws.{made_of, sound_is}
use Rattle.group_reader.specs.declared.source.Source.{Source}
use Rattle.group_reader.specs.Source.{Takes}
use Rattle.group_reader.specs.Located.{AreLocated}
use Rattle.group_reader.proofs.Telling.{Reached, judged_told}
use Rattle.group_reader.proofs.Pieces.{BeginsWith, begins_parts, begins_shorter}

-- ---- one block

abbrev pub behind_payload : ℕ → ℕ → ℕ → Column → ℕ → List ℕ × List ℕ → Read FileFault Block
behind_payload group column code c rows payload = sound group column (block_of (kind_of code) c rows payload.0) >>= (λ b. Ok (b, payload.1))

abbrev pub behind_length : ℕ → ℕ → ℕ → Column → ℕ → ℕ × List ℕ → Read FileFault Block
behind_length group column code c rows n = from_wire (bytes_at n.0 n.1) >>= behind_payload group column code c rows

abbrev pub behind_code : ℕ → ℕ → Column → ℕ → ℕ × List ℕ → Read FileFault Block
behind_code group column c rows k = from_wire (number_at 4 k.1) >>= behind_length group column k.0 c rows

pub block_start : (group column : ℕ) (c : Column) (rows : ℕ) (bytes : List ℕ) → block_at group column c rows bytes ≡ (from_wire (number_at 1 bytes) >>= behind_code group column c rows)
unfolding block_at
block_start group column c rows bytes = refl

-- what was judged behind all that was read
pub judged_behind : {R : Type 0} {known : R → Option (List ℕ)} {before now : Source R} {part left : List ℕ → Read FileFault Block} (group column code : ℕ) (c : Column) (rows start : ℕ) (old new slice : List ℕ) (r : Result BlockLocation FileFault)
    → Reached known before now part left → ((rest : List ℕ) → left rest ≡ behind_payload group column code c rows (drop (length old) new, rest))
    → start ≡ length old → slice ≡ new → Reads (block_in slice) r (sound group column (block_of (kind_of code) c rows (drop start slice)))
    → Takes known before now (block_in new) r part
judged_behind group column code c rows start old new slice r reached is from same told =
    judged_told (block_in new) r (sound group column (block_of (kind_of code) c rows (drop (length old) new))) reached is
    (subst (λ (n : ℕ). Reads (block_in new) r (sound group column (block_of (kind_of code) c rows (drop n new)))) from
    (subst (λ (bytes : List ℕ). Reads (block_in bytes) r (sound group column (block_of (kind_of code) c rows (drop start bytes)))) same told))

sound_block : (group column code : ℕ) (c : Column) (rows : ℕ) (payload bytes : List ℕ) (r : Result BlockLocation FileFault) → length payload < 2 ^ 32
    → Reads (block_in bytes) r (sound group column (block_of (kind_of code) c rows payload)) → IfOk r (λ p. IsBlockOf c rows (block_in bytes p))
sound_block group column code c rows payload bytes (Ok p) short told =
    let k = sound_is group column (kind_of code) c rows payload (block_in bytes p) told in
    let is : IsBlockOf c rows (made_of k.0 c rows payload) = record { col_type = refl; nullable = refl; rows = refl; sound = k.2; short = short } in
    subst (IsBlockOf c rows) k.3 is
sound_block group column code c rows payload bytes (Err e) short told = tt

-- a block that was found sound is one of its column
pub judged_block : (group column code : ℕ) (c : Column) (rows start : ℕ) (new slice : List ℕ) (r : Result BlockLocation FileFault) → slice ≡ new → length (drop start new) < 2 ^ 32
    → Reads (block_in slice) r (sound group column (block_of (kind_of code) c rows (drop start slice))) → IfOk r (λ p. IsBlockOf c rows (block_in new p))
judged_block group column code c rows start new slice r same short told =
    sound_block group column code c rows (drop start new) new r short (subst (λ (bytes : List ℕ). Reads (block_in bytes) r (sound group column (block_of (kind_of code) c rows (drop start bytes)))) same told)

-- ---- a row group

abbrev pub behind_kept : ℕ → List Column → ℕ → ℕ × List ℕ → Read FileFault (List Block)
behind_kept group columns rows n = blocks_at group 0 columns rows n.1

abbrev pub behind_stated : ℕ → List Column → ℕ → ℕ × List ℕ → Read FileFault (List Block)
behind_stated group columns rows n = formed (n.0 == rows) n >>= behind_kept group columns rows

pub group_start : (group : ℕ) (columns : List Column) (rows : ℕ) (bytes : List ℕ) → group_at group columns rows bytes ≡ (from_wire (number_at 4 bytes) >>= behind_stated group columns rows)
unfolding group_at
group_start group columns rows bytes = refl

-- ---- blocks in bytes that grow

pub within_more : (a b : List ℕ) (p : BlockLocation) → BeginsWith a b → IsWithin a p → IsWithin b p
within_more a b p begins is = let h = begins_shorter a b begins in record { ordered = is.ordered; within = omega (arith, h, is.within) }

pub block_same : (a b : List ℕ) (p : BlockLocation) → BeginsWith a b → IsWithin a p → block_in b p ≡ block_in a p
unfolding block_in
block_same a b p begins is =
    let behind : drop p.start b ≡ drop p.start a ++ drop (length a) b = ap (drop p.start) (begins_parts a b begins) ∙ drop-append-le p.start a (drop (length a) b) (omega (arith, is.ordered, is.within)) in
    let enough : p.end - p.start ≤ length (drop p.start a) = omega (arith, is.ordered, is.within, length-drop p.start a) in
    let payload : take (p.end - p.start) (drop p.start b) ≡ take (p.end - p.start) (drop p.start a) = ap (take (p.end - p.start)) behind ∙ take-append-le (p.end - p.start) (drop p.start a) (drop (length a) b) enough in
    λ i. record { kind = p.kind; col_type = p.col_type; nullable = p.nullable; rows = p.rows; payload = payload i }

all_within : (a b : List ℕ) (ps : List BlockLocation) → BeginsWith a b → AllByRecursion (IsWithin a) ps → AllByRecursion (IsWithin b) ps
all_within a b [] begins are = tt
all_within a b (p ∷ ps) begins are = (within_more a b p begins are.0, all_within a b ps begins are.1)

blocks_same : (a b : List ℕ) (ps : List BlockLocation) → BeginsWith a b → AllByRecursion (IsWithin a) ps → map (block_in b) ps ≡ map (block_in a) ps
blocks_same a b [] begins are = refl
blocks_same a b (p ∷ ps) begins are = λ i. block_same a b p begins are.0 i ∷ blocks_same a b ps begins are.1 i

pub same_blocks : (a b : List ℕ) (ps : List BlockLocation) → BeginsWith a b → All (IsWithin a) ps → map (block_in b) ps ≡ map (block_in a) ps
same_blocks a b ps begins are = blocks_same a b ps begins (recursion_from_All (IsWithin a) ps are)

-- ---- blocks one after the other

blocks_push : (cs : List Column) (c : Column) (n : ℕ) (bs : List Block) (b : Block) → AreBlocks cs n bs → IsBlockOf c n b → AreBlocks (cs ++ c ∷ []) n (bs ++ b ∷ [])
blocks_push [] c n [] b are is = (is, tt)
blocks_push [] c n (x ∷ bs) b are is = absurd are
blocks_push (d ∷ cs) c n [] b are is = absurd are
blocks_push (d ∷ cs) c n (x ∷ bs) b are is = (are.0, blocks_push cs c n bs b are.1 is)

pub none_located : (rows : ℕ) (bytes : List ℕ) → AreLocated [] rows bytes []
none_located rows bytes = record { within = All-from_recursion (IsWithin bytes) [] tt; blocks = tt }

-- the locations of blocks, as the views of a map
pub pushed_blocks : (a b : List ℕ) (ps : List BlockLocation) (p : BlockLocation) → BeginsWith a b → All (IsWithin a) ps → map (block_in b) (ps ++ p ∷ []) ≡ map (block_in a) ps ++ block_in b p ∷ []
pushed_blocks a b ps p begins are = map-append (block_in b) ps (p ∷ []) ∙ ap (λ (bs : List Block). bs ++ block_in b p ∷ []) (same_blocks a b ps begins are)

pub located_push : (cs : List Column) (c : Column) (rows : ℕ) (a b : List ℕ) (ps : List BlockLocation) (p : BlockLocation) → BeginsWith a b → AreLocated cs rows a ps → IsWithin b p → IsBlockOf c rows (block_in b p)
    → AreLocated (cs ++ c ∷ []) rows b (ps ++ p ∷ [])
located_push cs c rows a b ps p begins are within is = record {
  within = All-append (IsWithin b) ps (p ∷ []) (All-from_recursion (IsWithin b) ps (all_within a b ps begins (recursion_from_All (IsWithin a) ps are.within))) (All-from_recursion (IsWithin b) (p ∷ []) (within, tt));
  blocks = subst (AreBlocks (cs ++ c ∷ []) rows) (sym (pushed_blocks a b ps p begins are.within)) (blocks_push cs c rows (map (block_in a) ps) (block_in b p) are.blocks is);
}
