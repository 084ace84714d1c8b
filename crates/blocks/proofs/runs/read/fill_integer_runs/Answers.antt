-- Proofs of the goals of `fill_integer_runs` (`runs::read`).
use Rattle.std.proofs.Common.{◌≡◌, ℕ, ◌+◌, ◌-◌, ◌<◌, ◌≤◌, List, [], length, take, drop, map, sum, get_or, replicate, sym, ap, ◌∙◌, arith, ℤ, pos, w64, to_z, of_z}
use Rattle.std.specs.Int.{from_le_bytes, w16}
use Rattle.std.proofs.lemmas.List.{length-map, get_or-map}
use Rattle.bit_packing.specs.Bytes.{integer_of}
use Rattle.blocks.specs.Dictionary.{codes_in}
use Rattle.blocks.specs.Runs.{repeats}
use Rattle.bit_packing.proofs.Ranges.{stored}
use Rattle.blocks.proofs.PassedRuns.{map-behind, sum_around, first_and_rest}
use Rattle.blocks.proofs.runs.read.fill_integer_runs.Goals as goal

pub fill_runs-requires-clause-within : goal.fill_runs-requires-clause-within
fill_runs-requires-clause-within c =
    let lengths : List ℕ = codes_in c.args.lengths.now in
    let run : ℕ = c.run_at-run.result.0 in
    let l : length lengths ≡ length c.args.lengths.now = length-map c.args.lengths.now (from_le_bytes w16) in
    let f : c.from_le_bytes-rows.result ≡ get_or lengths run 0
    = c.from_le_bytes-rows.ensures ∙ sym (get_or-map (from_le_bytes w16) c.args.lengths.now run [] 0 (omega arith)) in
    let around : sum (take run lengths) + get_or lengths run 0 + sum (drop (run + 1) lengths) ≡ sum lengths = sum_around lengths run (omega (arith, l)) in
    let behind : sum (codes_in (take (length c.args.lengths.now - (run + 1)) (drop (run + 1) c.args.lengths.now))) ≡ sum (drop (run + 1) lengths)
    = ap sum (map-behind (from_le_bytes w16) c.args.lengths.now (run + 1)) in
    let rows : c.run_at-run.result.1 + sum (take run lengths) ≡ c.args.from = c.run_at-run.ensures.rows in
    let within : c.args.from + length c.args.out.now ≤ sum lengths = c.requires.within in
    omega (arith, f, around, behind, rows, within, c.split_at_mut-first.ensures.back_len, c.min-n.ensures)

pub returns : goal.returns
returns c =
    let values : List ℤ = map integer_of c.args.values.now in
    let lengths : List ℕ = codes_in c.args.lengths.now in
    let run : ℕ = c.run_at-run.result.0 in
    let skip : ℕ = c.run_at-run.result.1 in
    let l : length lengths ≡ length c.args.lengths.now = length-map c.args.lengths.now (from_le_bytes w16) in
    let m : length values ≡ length c.args.values.now = length-map c.args.values.now integer_of in
    let h : run < length values = omega (arith, m) in
    let k : run < length lengths = omega (arith, l) in
    let f : c.from_le_bytes-rows.result ≡ get_or lengths run 0
    = c.from_le_bytes-rows.ensures ∙ sym (get_or-map (from_le_bytes w16) c.args.lengths.now run [] 0 (omega arith)) in
    let g : to_z w64 (of_z w64 c.from_le_bytes.result) ≡ get_or values run (pos 0)
    = stored c.from_le_bytes.result c.from_le_bytes.type_inv ∙ c.from_le_bytes.ensures ∙ sym (get_or-map integer_of c.args.values.now run [] (pos 0) (omega arith)) in
    let inside : skip < get_or lengths run 0 = c.run_at-run.ensures.inside (omega arith) in
    let n : ℕ = c.min-n.result in
    let total : ℕ = length c.args.out.now in
    let first : c.fill.new.self ≡ replicate n (to_z w64 (of_z w64 c.from_le_bytes.result))
    = c.fill.ensures.after (λ y e. e) ∙ ap (λ (j : ℕ). replicate j (to_z w64 (of_z w64 c.from_le_bytes.result))) c.split_at_mut-first.ensures.front_len in
    let long : length c.split_at_mut-first.result.1.now ≡ total - n = omega (arith, c.split_at_mut-first.ensures.back_len) in
    let rest : c.fill_runs.new.out ≡ take (total - n) (repeats (drop (run + 1) values) (drop (run + 1) lengths))
    = c.fill_runs.ensures
    ∙ ap (λ vs. take (length c.split_at_mut-first.result.1.now) (repeats vs (codes_in (take (length c.args.lengths.now - (run + 1)) (drop (run + 1) c.args.lengths.now))))) (map-behind integer_of c.args.values.now (run + 1))
    ∙ ap (λ ns. take (length c.split_at_mut-first.result.1.now) (repeats (drop (run + 1) values) ns)) (map-behind (from_le_bytes w16) c.args.lengths.now (run + 1))
    ∙ ap (λ (j : ℕ). take j (repeats (drop (run + 1) values) (drop (run + 1) lengths))) long in
    first_and_rest values lengths run skip c.args.from c.from_le_bytes-rows.result n total (to_z w64 (of_z w64 c.from_le_bytes.result)) (pos 0) c.fill.new.self c.fill_runs.new.out
    h k f g (omega (arith, f, inside)) c.run_at-run.ensures.rows c.min-n.ensures first rest
