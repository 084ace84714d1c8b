-- Proofs of the goals of `read_integer_runs` (`runs::read`).
use Rattle.std.proofs.Common.{◌≡◌, ℕ, length, take, drop, map, ap, ◌∙◌}
use Rattle.std.specs.Simd.{first_chunks}
use Rattle.meaning.specs.declared.value.Value.TheVariants.{Int}
use Rattle.bit_packing.specs.Bytes.{integer_of, integers}
use Rattle.blocks.specs.Numbers.{count_of}
use Rattle.blocks.specs.Runs.{run_lengths, run_value_bytes}
use Rattle.blocks.specs.Dictionary.{codes_in}
use Rattle.blocks.specs.Runs.{repeats}
use Rattle.blocks.proofs.ReadBodies.{runs_read}
use Rattle.blocks.proofs.runs.read.read_integer_runs.Goals as goal

pub returns : goal.returns
returns c =
    let body = c.args.body.now in
    let rows : ℕ = c.args.rows in
    let from : ℕ = c.args.from in
    let n : ℕ = length c.args.out.now in
    let count : ℕ = count_of body in
    let bytes = run_value_bytes body in
    let lengths = run_lengths body in
    let parts = c.run_parts.result in
    let e : c.chunks.result.now ≡ first_chunks 8 count bytes
    = c.chunks.ensures.value ∙ ap (λ (k : ℕ). first_chunks 8 k parts.1.now) c.run_parts.ensures.len
    ∙ ap (first_chunks 8 count) c.run_parts.ensures.values in
    ap (map Int) (c.fill_integer_runs.ensures
    ∙ ap (λ cells. take n (drop from (repeats (map integer_of cells) (codes_in parts.0.now)))) e
    ∙ ap (λ ns. take n (drop from (repeats (integers count bytes) (codes_in ns)))) c.run_parts.ensures.lengths)
    ∙ runs_read Int (integers count bytes) lengths n from
