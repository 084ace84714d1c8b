-- Blocks and row groups: what is read is spelled so and well-formed, and what is well-formed and spelled is read again.
use Rattle.std.proofs.Common.{◌≡◌, ℕ, zero, suc, ◌/◌, ◌%◌, ◌^◌, ◌<◌, Bool, true, false, cond, eqb, List, [], ◌∷◌, ◌++◌, length, replicate, zip, Option, Some, None, Ok, refl, sym, ap, subst, ◌∙◌, append_assoc, arith}
use Rattle.std.specs.List.{flat_map, AllByRecursion}
use Rattle.std.proofs.lemmas.Bool.{eqb-true, eq-eqb}
use Rattle.std.proofs.lemmas.List.Concat.{flat_map-cons}
use Rattle.meaning.specs.declared.catalog.Column.{Column}
use Rattle.meaning.specs.Limits.{row_group_rows}
use Rattle.blocks.specs.declared.kind.Kind.{Kind}
use Rattle.blocks.specs.declared.kind.Kind.TheVariants as kind
use Rattle.blocks.specs.Block.{Block, is_block}
use Rattle.blocks.specs.Kind.{kind_code}
use Rattle.fragment_file.specs.declared.fault.FileFault.TheVariants as refusal
use Rattle.wire.specs.Reading.{◌>>=◌, bytes_at, number_at}
use Rattle.fragment_file.specs.Fragment.{IsBlockOf, AreBlocks, AreGroups, group_sizes, block_bytes, group_bytes}
use Rattle.wire.specs.Bytes.{number_bytes}
use Rattle.fragment_file.specs.FragmentReading.{formed, kind_of, block_of, sound, block_at, blocks_at, group_at, groups_at}
use Rattle.wire.proofs.Numbers.{bind_ok, ok_is, IsBytes, Takes, Takes-then, bytes_take, bytes_again, number_takes, number_again}
use Rattle.fragment_file.proofs.HeaderLaws.{passed}
use Rattle.fragment_file.proofs.FromWire.{read_ok}
use Rattle.fragment_file.specs.Fault.{from_wire}

-- ---- kinds

abbrev some : Kind → Option Kind
some k = Some k

some_is : (x y : Kind) → some x ≡ some y → x ≡ y
some_is x y e = cc

kind_case : (b : Bool) (n c : ℕ) → (b ≡ true → n ≡ c) → (x : Kind) (more : Option Kind) (y : Kind) → kind_code x ≡ c → (more ≡ Some y → kind_code y ≡ n)
    → cond b (Some x) more ≡ Some y → kind_code y ≡ n
kind_case true n c is x more y same next e = ap kind_code (sym (some_is x y e)) ∙ same ∙ sym (is refl)
kind_case false n c is x more y same next e = next e

kind_from : (n : ℕ) (k : Kind) → kind_of n ≡ Some k → kind_code k ≡ n
kind_from n k e =
    kind_case (eqb n 0) n 0 (eqb-true n 0) kind.Plain _ k refl
    (kind_case (eqb n 1) n 1 (eqb-true n 1) kind.Dict _ k refl
    (kind_case (eqb n 2) n 2 (eqb-true n 2) kind.Runs _ k refl
    (kind_case (eqb n 3) n 3 (eqb-true n 3) kind.Frame _ k refl (λ wrong. absurd cc)))) e

kind_again : (k : Kind) → kind_of (kind_code k) ≡ Some k
kind_again kind.Plain = refl
kind_again kind.Dict = refl
kind_again kind.Runs = refl
kind_again kind.Frame = refl

kind_fits : (k : Kind) → kind_code k < 256
kind_fits kind.Plain = omega arith
kind_fits kind.Dict = omega arith
kind_fits kind.Runs = omega arith
kind_fits kind.Frame = omega arith

-- ---- blocks

abbrev pub made_of : Kind → Column → ℕ → List ℕ → Block
made_of k c rows payload = record { kind = k; col_type = c.col_type; nullable = c.nullable; rows = rows; payload = payload }

chosen : (t : Bool) (made b : Block) (group column : ℕ) → sound group column (cond t (Some made) None) ≡ Ok b → (t ≡ true) × (made ≡ b)
chosen true made b group column e = (refl, ok_is made b e)
chosen false made b group column e = absurd cc

-- the kind of a block that was found sound
pub sound_is : (group column : ℕ) (o : Option Kind) (c : Column) (rows : ℕ) (payload : List ℕ) (b : Block) → sound group column (block_of o c rows payload) ≡ Ok b
    → (k : Kind) × (o ≡ Some k) × (is_block (made_of k c rows payload) ≡ true) × (made_of k c rows payload ≡ b)
sound_is group column None c rows payload b e = absurd cc
sound_is group column (Some k) c rows payload b e =
    let h = chosen (is_block (made_of k c rows payload)) (made_of k c rows payload) b group column e in
    (k, refl, h.0, h.1)

chosen_again : (t : Bool) (made b : Block) (group column : ℕ) → t ≡ true → made ≡ b → sound group column (cond t (Some made) None) ≡ Ok b
chosen_again true made b group column is same = ap Ok same
chosen_again false made b group column is same = absurd cc

sound_again : (group column : ℕ) (c : Column) (rows : ℕ) (b : Block) → IsBlockOf c rows b → sound group column (block_of (Some b.kind) c rows b.payload) ≡ Ok b
sound_again group column c rows b is =
    let same : made_of b.kind c rows b.payload ≡ b = λ i. record { kind = b.kind; col_type = sym is.col_type i; nullable = sym is.nullable i; rows = sym is.rows i; payload = b.payload } in
    chosen_again (is_block (made_of b.kind c rows b.payload)) (made_of b.kind c rows b.payload) b group column (ap is_block same ∙ is.sound) same

block_takes : (group column : ℕ) (c : Column) (rows : ℕ) (bytes : List ℕ) (p : Block × List ℕ) → IsBytes bytes → block_at group column c rows bytes ≡ Ok p → Takes bytes (block_bytes p.0) p.1 × IsBlockOf c rows p.0
unfolding block_at block_bytes
block_takes group column c rows bytes p fits e =
    let a = read_ok (number_at 1 bytes) (λ k. from_wire (number_at 4 k.1) >>= λ n. from_wire (bytes_at n.0 n.1) >>= λ payload. sound group column (block_of (kind_of k.0) c rows payload.0) >>= λ b. Ok (b, payload.1)) p e in
    let n = read_ok (number_at 4 a.0.1) (λ n. from_wire (bytes_at n.0 n.1) >>= λ payload. sound group column (block_of (kind_of a.0.0) c rows payload.0) >>= λ b. Ok (b, payload.1)) p a.2 in
    let t = read_ok (bytes_at n.0.0 n.0.1) (λ payload. sound group column (block_of (kind_of a.0.0) c rows payload.0) >>= λ b. Ok (b, payload.1)) p n.2 in
    let s = bind_ok (sound group column (block_of (kind_of a.0.0) c rows t.0.0)) (λ b. Ok (b, t.0.1)) p t.2 in
    let k = sound_is group column (kind_of a.0.0) c rows t.0.0 s.0 s.1 in
    let code = number_takes 1 bytes a.0.0 a.0.1 fits a.1 in
    let count = number_takes 4 a.0.1 n.0.0 n.0.1 code.0.rest_fits n.1 in
    let payload = bytes_take n.0.0 n.0.1 t.0.0 t.0.1 count.0.rest_fits t.1 in
    let len = payload.1 in
    let below = count.1 in
    let code_is : Takes bytes (number_bytes 1 (kind_code k.0)) a.0.1 = subst (λ (x : ℕ). Takes bytes (number_bytes 1 x) a.0.1) (sym (kind_from a.0.0 k.0 k.1)) code.0 in
    let count_is : Takes a.0.1 (number_bytes 4 (length t.0.0)) n.0.1 = subst (λ (x : ℕ). Takes a.0.1 (number_bytes 4 x) n.0.1) (sym len) count.0 in
    let one = Takes-then bytes (number_bytes 1 (kind_code k.0)) a.0.1 (number_bytes 4 (length t.0.0)) n.0.1 code_is count_is in
    let two = Takes-then bytes (number_bytes 1 (kind_code k.0) ++ number_bytes 4 (length t.0.0)) n.0.1 t.0.0 t.0.1 one payload.0 in
    let is : IsBlockOf c rows (made_of k.0 c rows t.0.0) = record { col_type = refl; nullable = refl; rows = refl; sound = k.2; short = omega (arith, len, below) } in
    let made : Takes bytes (block_bytes s.0) t.0.1 × IsBlockOf c rows s.0 = subst (λ (b : Block). Takes bytes (block_bytes b) t.0.1 × IsBlockOf c rows b) k.3 (two, is) in
    let pair : Block × List ℕ = (s.0, t.0.1) in
    subst (λ (q : Block × List ℕ). Takes bytes (block_bytes q.0) q.1 × IsBlockOf c rows q.0) (ok_is pair p s.2) made

block_again : (group column : ℕ) (c : Column) (rows : ℕ) (b : Block) (rest : List ℕ) → IsBlockOf c rows b → block_at group column c rows (block_bytes b ++ rest) ≡ Ok (b, rest)
unfolding block_at block_bytes
block_again group column c rows b rest is =
    let code = number_bytes 1 (kind_code b.kind) in
    let count = number_bytes 4 (length b.payload) in
    let short = is.short in
    ap (block_at group column c rows) (append_assoc (code ++ count) b.payload rest ∙ append_assoc code count (b.payload ++ rest))
    ∙ rw (
      number_again 1 (kind_code b.kind) (count ++ (b.payload ++ rest)) (kind_fits b.kind),
      number_again 4 (length b.payload) (b.payload ++ rest) short,
      bytes_again (length b.payload) b.payload rest refl,
      kind_again b.kind,
      sound_again group column c rows b is,
    ) refl

blocks_takes : (group column : ℕ) (cs : List Column) (rows : ℕ) (bytes : List ℕ) (p : List Block × List ℕ) → IsBytes bytes → blocks_at group column cs rows bytes ≡ Ok p → Takes bytes (flat_map block_bytes p.0) p.1 × AreBlocks cs rows p.0
unfolding blocks_at
blocks_takes group column [] rows bytes p fits e =
    subst (λ (q : List Block × List ℕ). Takes bytes (flat_map block_bytes q.0) q.1 × AreBlocks [] rows q.0) (ok_is ([], bytes) p e) (record { parts = refl; rest_fits = fits }, tt)
blocks_takes group column (c ∷ cs) rows bytes p fits e =
    let a = bind_ok (block_at group column c rows bytes) (λ b. blocks_at group (suc column) cs rows b.1 >>= λ others. Ok (b.0 ∷ others.0, others.1)) p e in
    let b = bind_ok (blocks_at group (suc column) cs rows a.0.1) (λ others. Ok (a.0.0 ∷ others.0, others.1)) p a.2 in
    let first = block_takes group column c rows bytes a.0 fits a.1 in
    let others = blocks_takes group (suc column) cs rows a.0.1 b.0 first.0.rest_fits b.1 in
    let both = Takes-then bytes (block_bytes a.0.0) a.0.1 (flat_map block_bytes b.0.0) b.0.1 first.0 others.0 in
    let made : List Block × List ℕ = (a.0.0 ∷ b.0.0, b.0.1) in
    let whole : Takes bytes (flat_map block_bytes (a.0.0 ∷ b.0.0)) b.0.1 = subst (λ (t : List ℕ). Takes bytes t b.0.1) (sym (flat_map-cons block_bytes a.0.0 b.0.0)) both in
    subst (λ (q : List Block × List ℕ). Takes bytes (flat_map block_bytes q.0) q.1 × AreBlocks (c ∷ cs) rows q.0) (ok_is made p b.2) (whole, (first.1, others.1))

blocks_again : (group column : ℕ) (cs : List Column) (rows : ℕ) (bs : List Block) (rest : List ℕ) → AreBlocks cs rows bs → blocks_at group column cs rows (flat_map block_bytes bs ++ rest) ≡ Ok (bs, rest)
unfolding blocks_at
blocks_again group column [] rows [] rest are = refl
blocks_again group column [] rows (b ∷ bs) rest are = absurd are
blocks_again group column (c ∷ cs) rows [] rest are = absurd are
blocks_again group column (c ∷ cs) rows (b ∷ bs) rest are =
    let regrouped : flat_map block_bytes (b ∷ bs) ++ rest ≡ block_bytes b ++ (flat_map block_bytes bs ++ rest) = ap (λ (t : List ℕ). t ++ rest) (flat_map-cons block_bytes b bs) ∙ append_assoc (block_bytes b) (flat_map block_bytes bs) rest in
    ap (blocks_at group column (c ∷ cs) rows) regrouped
    ∙ rw (block_again group column c rows b (flat_map block_bytes bs ++ rest) are.0, blocks_again group (suc column) cs rows bs rest are.1) refl

-- ---- row groups

group_takes : (group : ℕ) (cs : List Column) (rows : ℕ) (bytes : List ℕ) (p : List Block × List ℕ) → IsBytes bytes → group_at group cs rows bytes ≡ Ok p → Takes bytes (group_bytes (rows, p.0)) p.1 × AreBlocks cs rows p.0
unfolding group_at group_bytes
group_takes group cs rows bytes p fits e =
    let a = read_ok (number_at 4 bytes) (λ n. formed (eqb n.0 rows) n >>= λ n. blocks_at group 0 cs rows n.1) p e in
    let w = passed (eqb a.0.0 rows) refusal.Header a.0 (λ n. blocks_at group 0 cs rows n.1) p a.2 in
    let number = number_takes 4 bytes a.0.0 a.0.1 fits a.1 in
    let blocks = blocks_takes group 0 cs rows a.0.1 p number.0.rest_fits w.1 in
    let number_is : Takes bytes (number_bytes 4 rows) a.0.1 = subst (λ (n : ℕ). Takes bytes (number_bytes 4 n) a.0.1) (eqb-true a.0.0 rows w.0) number.0 in
    (Takes-then bytes (number_bytes 4 rows) a.0.1 (flat_map block_bytes p.0) p.1 number_is blocks.0, blocks.1)

group_again : (group : ℕ) (cs : List Column) (rows : ℕ) (bs : List Block) (rest : List ℕ) → rows < 2 ^ 32 → AreBlocks cs rows bs → group_at group cs rows (group_bytes (rows, bs) ++ rest) ≡ Ok (bs, rest)
unfolding group_at group_bytes
group_again group cs rows bs rest few are =
    ap (group_at group cs rows) (append_assoc (number_bytes 4 rows) (flat_map block_bytes bs) rest)
    ∙ rw (number_again 4 rows (flat_map block_bytes bs ++ rest) few, eq-eqb rows rows refl, blocks_again group 0 cs rows bs rest are) refl

pub groups_takes : (group : ℕ) (cs : List Column) (sizes : List ℕ) (bytes : List ℕ) (p : List (List Block) × List ℕ) → IsBytes bytes → groups_at group cs sizes bytes ≡ Ok p
    → Takes bytes (flat_map group_bytes (zip sizes p.0)) p.1 × AreGroups cs sizes p.0
unfolding groups_at
groups_takes group cs [] bytes p fits e =
    subst (λ (q : List (List Block) × List ℕ). Takes bytes (flat_map group_bytes (zip [] q.0)) q.1 × AreGroups cs [] q.0) (ok_is ([], bytes) p e) (record { parts = refl; rest_fits = fits }, tt)
groups_takes group cs (n ∷ sizes) bytes p fits e =
    let a = bind_ok (group_at group cs n bytes) (λ g. groups_at (suc group) cs sizes g.1 >>= λ others. Ok (g.0 ∷ others.0, others.1)) p e in
    let b = bind_ok (groups_at (suc group) cs sizes a.0.1) (λ others. Ok (a.0.0 ∷ others.0, others.1)) p a.2 in
    let first = group_takes group cs n bytes a.0 fits a.1 in
    let others = groups_takes (suc group) cs sizes a.0.1 b.0 first.0.rest_fits b.1 in
    let both = Takes-then bytes (group_bytes (n, a.0.0)) a.0.1 (flat_map group_bytes (zip sizes b.0.0)) b.0.1 first.0 others.0 in
    let made : List (List Block) × List ℕ = (a.0.0 ∷ b.0.0, b.0.1) in
    let whole : Takes bytes (flat_map group_bytes (zip (n ∷ sizes) (a.0.0 ∷ b.0.0))) b.0.1 = subst (λ (t : List ℕ). Takes bytes t b.0.1) (sym (flat_map-cons group_bytes (n, a.0.0) (zip sizes b.0.0))) both in
    subst (λ (q : List (List Block) × List ℕ). Takes bytes (flat_map group_bytes (zip (n ∷ sizes) q.0)) q.1 × AreGroups cs (n ∷ sizes) q.0) (ok_is made p b.2) (whole, (first.1, others.1))

pub groups_again : (group : ℕ) (cs : List Column) (sizes : List ℕ) (gs : List (List Block)) (rest : List ℕ) → AllByRecursion (λ n. n < 2 ^ 32) sizes → AreGroups cs sizes gs
    → groups_at group cs sizes (flat_map group_bytes (zip sizes gs) ++ rest) ≡ Ok (gs, rest)
unfolding groups_at
groups_again group cs [] [] rest few are = refl
groups_again group cs [] (g ∷ gs) rest few are = absurd are
groups_again group cs (n ∷ sizes) [] rest few are = absurd are
groups_again group cs (n ∷ sizes) (g ∷ gs) rest few are =
    let regrouped : flat_map group_bytes (zip (n ∷ sizes) (g ∷ gs)) ++ rest ≡ group_bytes (n, g) ++ (flat_map group_bytes (zip sizes gs) ++ rest) = ap (λ (t : List ℕ). t ++ rest) (flat_map-cons group_bytes (n, g) (zip sizes gs)) ∙ append_assoc (group_bytes (n, g)) (flat_map group_bytes (zip sizes gs)) rest in
    ap (groups_at group cs (n ∷ sizes)) regrouped
    ∙ rw (group_again group cs n g (flat_map group_bytes (zip sizes gs) ++ rest) few.0 are.0, groups_again (suc group) cs sizes gs rest few.1 are.1) refl

-- ---- sizes

behind_full : (k : ℕ) (tail : List ℕ) → AllByRecursion (λ n. n < 2 ^ 32) tail → AllByRecursion (λ n. n < 2 ^ 32) (replicate k row_group_rows ++ tail)
behind_full zero tail few = few
behind_full (suc k) tail few = (omega arith, behind_full k tail few)

last_size : (b : Bool) (n : ℕ) → n < 2 ^ 32 → AllByRecursion (λ m. m < 2 ^ 32) (cond b [] (n ∷ []))
last_size true n few = tt
last_size false n few = (few, tt)

pub sizes_few : (rows : ℕ) → AllByRecursion (λ n. n < 2 ^ 32) (group_sizes rows)
sizes_few rows = behind_full (rows / row_group_rows) (cond (eqb (rows % row_group_rows) 0) [] ((rows % row_group_rows) ∷ [])) (last_size (eqb (rows % row_group_rows) 0) (rows % row_group_rows) (omega arith))
