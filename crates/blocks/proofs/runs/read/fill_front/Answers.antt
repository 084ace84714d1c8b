-- Proofs of the goals of `fill_front` (`runs::read`).
use Rattle.std.proofs.Common.{◌≡◌, ℕ, ◌+◌, ◌<◌, ◌≤◌, List, [], length, take, map, get_or, sym, ◌∙◌, arith, ℤ, pos, w64, to_z, of_z}
use Rattle.std.specs.Int.{from_le_bytes, w16}
use Rattle.std.proofs.lemmas.List.{length-map, get_or-map}
use Rattle.bit_packing.specs.Bytes.{integer_of}
use Rattle.blocks.specs.Dictionary.{codes_in}
use Rattle.blocks.specs.Runs.{repeats}
use Rattle.bit_packing.proofs.Ranges.{stored}
use Rattle.blocks.proofs.ReadLists.{lined_filled}
use Rattle.blocks.proofs.runs.read.fill_front.Goals as goal

pub loop-run-preserved : goal.loop-run-preserved
loop-run-preserved c =
    let values : List ℤ = map integer_of c.args.values.now in
    let lengths : List ℕ = codes_in c.args.lengths.now in
    let all : List ℤ = repeats values lengths in
    let run : ℕ = c.loop-run.run in
    let front : List ℤ = take c.loop-run.done c.loop-run.out in
    let l : length lengths ≡ length c.args.lengths.now = length-map c.args.lengths.now (from_le_bytes w16) in
    let m : length values ≡ length c.args.values.now = length-map c.args.values.now integer_of in
    let h : run < length values = omega (arith, m) in
    let k : run < length lengths = omega (arith, l) in
    let f : c.from_le_bytes-rows.result ≡ get_or lengths run 0
    = c.from_le_bytes-rows.ensures ∙ sym (get_or-map (from_le_bytes w16) c.args.lengths.now run [] 0 (omega arith)) in
    let g : to_z w64 (of_z w64 c.from_le_bytes.result) ≡ get_or values run (pos 0)
    = stored c.from_le_bytes.result c.from_le_bytes.type_inv ∙ c.from_le_bytes.ensures ∙ sym (get_or-map integer_of c.args.values.now run [] (pos 0) (omega arith)) in
    let lo : length c.loop-run.out ≡ length c.args.out.now = c.loop-run.auto.out in
    let ln : length c.put_run.new.out ≡ length c.loop-run.out = omega arith in
    let room : c.loop-run.done + c.from_le_bytes-rows.result ≤ length c.put_run.new.out = omega (arith, ln) in
    record {
      within = room;
      lined = lined_filled front 0 values lengths run all (pos 0) (to_z w64 (of_z w64 c.from_le_bytes.result)) c.from_le_bytes-rows.result c.from_le_bytes-rows.result (take (c.loop-run.done + c.from_le_bytes-rows.result) c.put_run.new.out)
          c.loop-run.invariant.lined h k f (omega arith) g (omega arith) c.put_run.ensures;
    }
