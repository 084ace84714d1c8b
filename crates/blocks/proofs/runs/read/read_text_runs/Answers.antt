-- Proofs of the goals of `read_text_runs` (`runs::read`).
use Rattle.std.proofs.Common.{◌≡◌, ℕ, ◌*◌, length, take, drop, map, ap, ◌∙◌}
use Rattle.std.specs.Simd.{first_chunks}
use Rattle.meaning.specs.declared.value.Value.TheVariants.{Text}
use Rattle.columns.specs.Texts.{texts_from}
use Rattle.blocks.specs.Numbers.{count_of}
use Rattle.blocks.specs.Plain.{ends_of, joined_of}
use Rattle.blocks.specs.Runs.{run_lengths, run_value_bytes}
use Rattle.blocks.specs.Dictionary.{codes_in}
use Rattle.blocks.specs.Runs.{repeats}
use Rattle.blocks.specs.Plain.{texts_in}
use Rattle.blocks.proofs.ReadBodies.{runs_read}
use Rattle.blocks.proofs.runs.read.read_text_runs.Goals as goal

pub returns : goal.returns
returns c =
    let body = c.args.body.now in
    let rows : ℕ = c.args.rows in
    let from : ℕ = c.args.from in
    let n : ℕ = length c.args.out.now in
    let count : ℕ = count_of body in
    let bytes = run_value_bytes body in
    let lengths = run_lengths body in
    let parts = c.run_parts.result in
    let form = c.texts_form.result in
    let e : form.ends.now ≡ first_chunks 4 count bytes
    = c.texts_form.ensures.ends ∙ ap (λ (k : ℕ). first_chunks 4 k parts.1.now) c.run_parts.ensures.len
    ∙ ap (first_chunks 4 count) c.run_parts.ensures.values in
    let j : form.joined.now ≡ joined_of count bytes
    = c.texts_form.ensures.joined ∙ ap (λ (k : ℕ). drop (4 * k) parts.1.now) c.run_parts.ensures.len
    ∙ ap (drop (4 * count)) c.run_parts.ensures.values in
    ap (map Text) (c.fill_text_runs.ensures
    ∙ ap (λ ends. take n (drop from (repeats (texts_in ends form.joined.now) (codes_in parts.0.now)))) e
    ∙ ap (λ joined. take n (drop from (repeats (texts_from 0 (ends_of count bytes) joined) (codes_in parts.0.now)))) j
    ∙ ap (λ ns. take n (drop from (repeats (texts_from 0 (ends_of count bytes) (joined_of count bytes)) (codes_in ns)))) c.run_parts.ensures.lengths)
    ∙ runs_read Text (texts_from 0 (ends_of count bytes) (joined_of count bytes)) lengths n from
