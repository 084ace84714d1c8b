-- Proofs of the goals of `read_ints` (`block_rows`).
use Rattle.std.proofs.Common.{◌≡◌, ℕ, ◌-◌, min, List, length, take, drop, map, sym, ap, subst, ◌∙◌, arith, Bool, false, ℤ, replicate}
use Rattle.std.specs.Prelude.{if◌then◌else◌}
use Rattle.std.specs.List.{range_with_len}
use Rattle.std.specs.Vec.{with_items}
use Rattle.std.proofs.lemmas.List.{with_items_is, length-map}
use Rattle.meaning.specs.declared.value.ColType.{ColType}
use Rattle.meaning.specs.declared.value.ColType.TheVariants as of_type
use Rattle.bit_packing.specs.Bits.{bit_at}
use Rattle.blocks.specs.Block.{Block, body_cells, body_of, cells_of, mask_of, nulls_of}
use Rattle.blocks.specs.VectorBuf.{AreCells, AreRoom, cells_in, no_texts, vector_of}
use Rattle.blocks.proofs.ReadVectors.{cells_ready, nulls_read, vector_read}
use Rattle.blocks.proofs.block_rows.read_ints.Goals as goal
use denote.Bor.{Bor}

-- cells of integers, whatever texts stand beside them
only_ints : (t : ColType) (ints : List ℤ) (texts others : List (List ℕ)) → t ≡ of_type.Int → cells_in of_type.Int ints others ≡ cells_in t ints texts
only_ints of_type.Int ints texts others is = cc
only_ints of_type.Text ints texts others is = absurd cc

pub invariant_of-out : goal.invariant_of-out
invariant_of-out c =
    let b : Block = record { kind = c.args.block.kind; col_type = c.args.block.col_type; nullable = c.args.block.nullable; rows = c.args.block.rows; payload = c.args.block.payload.now } in
    let now : Bor (List ℕ) → List ℕ = λ t. t.now in
    let n : ℕ = c.min-count.result in
    let k : ℕ = c.min-start.result in
    let f = c.out.inside in
    let nulls : List Bool = c.read_nulls.new.out in
    let ints : List ℤ = c.read_cells.new.ints in
    let nl : length nulls ≡ f.nulls.len = c.read_nulls.auto.out ∙ c.as_mut_slice.ensures.len in
    let il : length ints ≡ f.ints.len = c.read_cells.auto.ints ∙ c.as_mut_slice-2.ensures.len in
    let ns : (with_items f.nulls nulls).items ≡ nulls = with_items_is f.nulls nulls nl in
    let is : (with_items f.ints ints).items ≡ ints = with_items_is f.ints ints il in
    let hn : n ≡ min f.nulls.len (c.args.block.rows - c.args.from)
    = c.min-count.ensures ∙ ap (λ (j : ℕ). min j c.saturating_sub.result) c.len.ensures ∙ ap (min f.nulls.len) c.saturating_sub.ensures in
    let hk : k ≡ min c.args.from c.args.block.rows = c.min-start.ensures in
    let mask : c.split_at.result.0.now ≡ mask_of b = c.split_at.ensures.front ∙ ap (λ (j : ℕ). take j c.args.block.payload.now) c.mask_length.ensures in
    let body : c.split_at.result.1.now ≡ body_of b = c.split_at.ensures.back ∙ ap (λ (j : ℕ). drop j c.args.block.payload.now) c.mask_length.ensures in
    let e : take n nulls ≡ take n (drop k (nulls_of b))
    = c.read_nulls.ensures
    ∙ ap (λ ms. if c.args.block.nullable then map (bit_at ms) (range_with_len k n) else replicate n false) mask
    ∙ nulls_read c.args.block.nullable (mask_of b) k n c.args.block.rows (omega (arith, hn, hk)) in
    let g : cells_in of_type.Int (take n ints) (take n (no_texts nulls)) ≡ take n (drop k (cells_of b))
    = only_ints c.args.block.col_type (take n ints) (take n (map now c.read_cells.new.texts)) (take n (no_texts nulls)) c.requires.ints
    ∙ c.read_cells.ensures ∙ ap (λ ys. take n (drop k (body_cells c.args.block.kind c.args.block.col_type c.args.block.rows ys))) body in
    let nv : length f.nulls.items ≡ f.nulls.len = ap length (sym c.as_mut_slice.ensures.value) ∙ c.as_mut_slice.ensures.len in
    let iv : length f.ints.items ≡ f.ints.len = ap length (sym c.as_mut_slice-2.ensures.value) ∙ c.as_mut_slice-2.ensures.len in
    let own : length f.ints.items ≡ length f.nulls.items = c.out.invariant.room.0 in
    let room : AreRoom nulls ints (no_texts nulls) = (il ∙ sym iv ∙ own ∙ nv ∙ sym nl, length-map nulls _) in
    let ready : AreCells of_type.Int n nulls ints (no_texts nulls)
    = cells_ready b of_type.Int n k nulls ints (no_texts nulls) c.requires.block e g room (omega (arith, hn, nl)) in
    subst (λ cs. AreCells of_type.Int n cs (with_items f.ints ints).items (no_texts cs)) (sym ns)
    (subst (λ cs. AreCells of_type.Int n nulls cs (no_texts nulls)) (sym is) ready)

pub returns : goal.returns
returns c =
    let b : Block = record { kind = c.args.block.kind; col_type = c.args.block.col_type; nullable = c.args.block.nullable; rows = c.args.block.rows; payload = c.args.block.payload.now } in
    let now : Bor (List ℕ) → List ℕ = λ t. t.now in
    let n : ℕ = c.min-count.result in
    let k : ℕ = c.min-start.result in
    let f = c.out.inside in
    let nulls : List Bool = c.read_nulls.new.out in
    let ints : List ℤ = c.read_cells.new.ints in
    let nl : length nulls ≡ f.nulls.len = c.read_nulls.auto.out ∙ c.as_mut_slice.ensures.len in
    let il : length ints ≡ f.ints.len = c.read_cells.auto.ints ∙ c.as_mut_slice-2.ensures.len in
    let ns : (with_items f.nulls nulls).items ≡ nulls = with_items_is f.nulls nulls nl in
    let is : (with_items f.ints ints).items ≡ ints = with_items_is f.ints ints il in
    let hn : n ≡ min f.nulls.len (c.args.block.rows - c.args.from)
    = c.min-count.ensures ∙ ap (λ (j : ℕ). min j c.saturating_sub.result) c.len.ensures ∙ ap (min f.nulls.len) c.saturating_sub.ensures in
    let hk : k ≡ min c.args.from c.args.block.rows = c.min-start.ensures in
    let mask : c.split_at.result.0.now ≡ mask_of b = c.split_at.ensures.front ∙ ap (λ (j : ℕ). take j c.args.block.payload.now) c.mask_length.ensures in
    let body : c.split_at.result.1.now ≡ body_of b = c.split_at.ensures.back ∙ ap (λ (j : ℕ). drop j c.args.block.payload.now) c.mask_length.ensures in
    let e : take n nulls ≡ take n (drop k (nulls_of b))
    = c.read_nulls.ensures
    ∙ ap (λ ms. if c.args.block.nullable then map (bit_at ms) (range_with_len k n) else replicate n false) mask
    ∙ nulls_read c.args.block.nullable (mask_of b) k n c.args.block.rows (omega (arith, hn, hk)) in
    let g : cells_in of_type.Int (take n ints) (take n (no_texts nulls)) ≡ take n (drop k (cells_of b))
    = only_ints c.args.block.col_type (take n ints) (take n (map now c.read_cells.new.texts)) (take n (no_texts nulls)) c.requires.ints
    ∙ c.read_cells.ensures ∙ ap (λ ys. take n (drop k (body_cells c.args.block.kind c.args.block.col_type c.args.block.rows ys))) body in
    let room : length f.nulls.items ≡ c.args.out.now.room = ap (λ v. v.room) c.out.view_is in
    let nv : length f.nulls.items ≡ f.nulls.len = ap length (sym c.as_mut_slice.ensures.value) ∙ c.as_mut_slice.ensures.len in
    let r : f.nulls.len ≡ c.args.out.now.room = sym nv ∙ room in
    ap (λ cs. vector_of of_type.Int n cs (with_items f.ints ints).items (no_texts cs)) ns
    ∙ ap (λ cs. vector_of of_type.Int n nulls cs (no_texts nulls)) is
    ∙ vector_read b of_type.Int c.args.out.now.room c.args.from n k nulls ints (no_texts nulls)
    (hn ∙ ap (λ (j : ℕ). min j (c.args.block.rows - c.args.from)) r) hk (nl ∙ r) e g
