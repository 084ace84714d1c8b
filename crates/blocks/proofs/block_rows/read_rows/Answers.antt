-- Proofs of the goals of `read_rows` (`block_rows`).
use Rattle.std.proofs.Common.{◌≡◌, ℕ, ◌-◌, min, List, length, take, drop, map, sym, ap, subst, ◌∙◌, arith, Bool, false, ℤ, replicate}
use Rattle.std.specs.Prelude.{if◌then◌else◌}
use Rattle.std.specs.List.{range_with_len}
use Rattle.std.specs.Vec.{with_items}
use Rattle.std.proofs.lemmas.List.{with_items_is, length-map}
use Rattle.bit_packing.specs.Bits.{bit_at}
use Rattle.blocks.specs.Block.{Block, body_cells, body_of, cells_of, mask_of, nulls_of}
use Rattle.blocks.specs.VectorBuf.{AreCells, AreRoom, cells_in, vector_of}
use Rattle.blocks.proofs.ReadVectors.{cells_ready, room_kept, nulls_read, vector_read}
use Rattle.blocks.proofs.block_rows.read_rows.Goals as goal
use denote.Bor.{Bor}

pub invariant_of-out : goal.invariant_of-out
invariant_of-out c =
    let b : Block = record { kind = c.args.block.kind; col_type = c.args.block.col_type; nullable = c.args.block.nullable; rows = c.args.block.rows; payload = c.args.block.payload.now } in
    let now : Bor (List ℕ) → List ℕ = λ t. t.now in
    let n : ℕ = c.min-count.result in
    let k : ℕ = c.min-start.result in
    let f = c.out.inside in
    let nulls : List Bool = c.read_nulls.new.out in
    let ints : List ℤ = c.read_cells.new.ints in
    let texts : List (List ℕ) = map now c.read_cells.new.texts in
    let nl : length nulls ≡ f.nulls.len = c.read_nulls.auto.out ∙ c.as_mut_slice.ensures.len in
    let il : length ints ≡ f.ints.len = c.read_cells.auto.ints ∙ c.as_mut_slice-2.ensures.len in
    let tl : length c.read_cells.new.texts ≡ f.texts.len = c.read_cells.auto.texts ∙ c.as_mut_slice-3.ensures.len in
    let ns : (with_items f.nulls nulls).items ≡ nulls = with_items_is f.nulls nulls nl in
    let is : (with_items f.ints ints).items ≡ ints = with_items_is f.ints ints il in
    let ts : map now (with_items f.texts c.read_cells.new.texts).items ≡ texts = ap (map now) (with_items_is f.texts c.read_cells.new.texts tl) in
    let hn : n ≡ min f.nulls.len (c.args.block.rows - c.args.from)
    = c.min-count.ensures ∙ ap (λ (j : ℕ). min j c.saturating_sub.result) c.len.ensures ∙ ap (min f.nulls.len) c.saturating_sub.ensures in
    let hk : k ≡ min c.args.from c.args.block.rows = c.min-start.ensures in
    let mask : c.split_at.result.0.now ≡ mask_of b = c.split_at.ensures.front ∙ ap (λ (j : ℕ). take j c.args.block.payload.now) c.mask_length.ensures in
    let body : c.split_at.result.1.now ≡ body_of b = c.split_at.ensures.back ∙ ap (λ (j : ℕ). drop j c.args.block.payload.now) c.mask_length.ensures in
    let e : take n nulls ≡ take n (drop k (nulls_of b))
    = c.read_nulls.ensures
    ∙ ap (λ ms. if c.args.block.nullable then map (bit_at ms) (range_with_len k n) else replicate n false) mask
    ∙ nulls_read c.args.block.nullable (mask_of b) k n c.args.block.rows (omega (arith, hn, hk)) in
    let g : cells_in c.args.block.col_type (take n ints) (take n texts) ≡ take n (drop k (cells_of b))
    = c.read_cells.ensures ∙ ap (λ ys. take n (drop k (body_cells c.args.block.kind c.args.block.col_type c.args.block.rows ys))) body in
    let nv : length f.nulls.items ≡ f.nulls.len = ap length (sym c.as_mut_slice.ensures.value) ∙ c.as_mut_slice.ensures.len in
    let iv : length f.ints.items ≡ f.ints.len = ap length (sym c.as_mut_slice-2.ensures.value) ∙ c.as_mut_slice-2.ensures.len in
    let tv : length f.texts.items ≡ f.texts.len = ap length (sym c.as_mut_slice-3.ensures.value) ∙ c.as_mut_slice-3.ensures.len in
    let tm : length (map now f.texts.items) ≡ length f.texts.items = length-map f.texts.items now in
    let tn : length texts ≡ length c.read_cells.new.texts = length-map c.read_cells.new.texts now in
    let own : AreRoom f.nulls.items f.ints.items (map now f.texts.items) = c.out.invariant.room in
    let ready : AreCells c.args.block.col_type n nulls ints texts
    = cells_ready b c.args.block.col_type n k nulls ints texts c.requires.block e g
    (room_kept f.nulls.items nulls f.ints.items ints (map now f.texts.items) texts own (nl ∙ sym nv) (il ∙ sym iv) (tn ∙ (tl ∙ (sym tv ∙ sym tm)))) (omega (arith, hn, nl)) in
    subst (λ cs. AreCells c.args.block.col_type n cs (with_items f.ints ints).items (map now (with_items f.texts c.read_cells.new.texts).items)) (sym ns)
    (subst (λ cs. AreCells c.args.block.col_type n nulls cs (map now (with_items f.texts c.read_cells.new.texts).items)) (sym is)
    (subst (AreCells c.args.block.col_type n nulls ints) (sym ts) ready))

pub returns : goal.returns
returns c =
    let b : Block = record { kind = c.args.block.kind; col_type = c.args.block.col_type; nullable = c.args.block.nullable; rows = c.args.block.rows; payload = c.args.block.payload.now } in
    let now : Bor (List ℕ) → List ℕ = λ t. t.now in
    let n : ℕ = c.min-count.result in
    let k : ℕ = c.min-start.result in
    let f = c.out.inside in
    let nulls : List Bool = c.read_nulls.new.out in
    let ints : List ℤ = c.read_cells.new.ints in
    let texts : List (List ℕ) = map now c.read_cells.new.texts in
    let nl : length nulls ≡ f.nulls.len = c.read_nulls.auto.out ∙ c.as_mut_slice.ensures.len in
    let il : length ints ≡ f.ints.len = c.read_cells.auto.ints ∙ c.as_mut_slice-2.ensures.len in
    let tl : length c.read_cells.new.texts ≡ f.texts.len = c.read_cells.auto.texts ∙ c.as_mut_slice-3.ensures.len in
    let ns : (with_items f.nulls nulls).items ≡ nulls = with_items_is f.nulls nulls nl in
    let is : (with_items f.ints ints).items ≡ ints = with_items_is f.ints ints il in
    let ts : map now (with_items f.texts c.read_cells.new.texts).items ≡ texts = ap (map now) (with_items_is f.texts c.read_cells.new.texts tl) in
    let hn : n ≡ min f.nulls.len (c.args.block.rows - c.args.from)
    = c.min-count.ensures ∙ ap (λ (j : ℕ). min j c.saturating_sub.result) c.len.ensures ∙ ap (min f.nulls.len) c.saturating_sub.ensures in
    let hk : k ≡ min c.args.from c.args.block.rows = c.min-start.ensures in
    let mask : c.split_at.result.0.now ≡ mask_of b = c.split_at.ensures.front ∙ ap (λ (j : ℕ). take j c.args.block.payload.now) c.mask_length.ensures in
    let body : c.split_at.result.1.now ≡ body_of b = c.split_at.ensures.back ∙ ap (λ (j : ℕ). drop j c.args.block.payload.now) c.mask_length.ensures in
    let e : take n nulls ≡ take n (drop k (nulls_of b))
    = c.read_nulls.ensures
    ∙ ap (λ ms. if c.args.block.nullable then map (bit_at ms) (range_with_len k n) else replicate n false) mask
    ∙ nulls_read c.args.block.nullable (mask_of b) k n c.args.block.rows (omega (arith, hn, hk)) in
    let g : cells_in c.args.block.col_type (take n ints) (take n texts) ≡ take n (drop k (cells_of b))
    = c.read_cells.ensures ∙ ap (λ ys. take n (drop k (body_cells c.args.block.kind c.args.block.col_type c.args.block.rows ys))) body in
    let room : length f.nulls.items ≡ c.args.out.now.room = ap (λ v. v.room) c.out.view_is in
    let nv : length f.nulls.items ≡ f.nulls.len = ap length (sym c.as_mut_slice.ensures.value) ∙ c.as_mut_slice.ensures.len in
    let r : f.nulls.len ≡ c.args.out.now.room = sym nv ∙ room in
    ap (λ cs. vector_of c.args.block.col_type n cs (with_items f.ints ints).items (map now (with_items f.texts c.read_cells.new.texts).items)) ns
    ∙ ap (λ cs. vector_of c.args.block.col_type n nulls cs (map now (with_items f.texts c.read_cells.new.texts).items)) is
    ∙ ap (vector_of c.args.block.col_type n nulls ints) ts
    ∙ vector_read b c.args.block.col_type c.args.out.now.room c.args.from n k nulls ints texts
    (hn ∙ ap (λ (j : ℕ). min j (c.args.block.rows - c.args.from)) r) hk (nl ∙ r) e g
