-- Proofs of the goals of `fill_text_runs` (`runs::read`).
use Rattle.std.proofs.Common.{◌≡◌, ℕ, ◌+◌, ◌<◌, ◌≤◌, List, [], length, take, drop, map, get_or, sym, ap, ◌∙◌, arith}
use Rattle.std.specs.Int.{from_le_bytes, w16, w32}
use Rattle.std.proofs.lemmas.List.{length-map, get_or-map, length-take-le, take_all}
use Rattle.blocks.specs.Dictionary.{codes_in}
use Rattle.blocks.specs.Plain.{ends_in, texts_in}
use Rattle.blocks.specs.Runs.{repeats}
use Rattle.blocks.proofs.ReadLists.{lined_skipped, lined_filled, lined_full, lined_over, runs_enough}
use Rattle.blocks.proofs.ReadParts.{length-texts_from}
use denote.Bor.{Bor}
use Rattle.blocks.proofs.PassedRuns.{passed_over}
use Rattle.blocks.proofs.runs.read.fill_text_runs.Goals as goal

pub loop-run-init : goal.loop-run-init
loop-run-init c =
    let values : List (List ℕ) = texts_in c.args.values.ends.now c.args.values.joined.now in
    let lengths : List ℕ = codes_in c.args.lengths.now in
    let l : length lengths ≡ length c.args.lengths.now = length-map c.args.lengths.now (from_le_bytes w16) in
    let m : length values ≡ length c.args.values.ends.now
    = length-texts_from 0 (ends_in c.args.values.ends.now) c.args.values.joined.now ∙ length-map c.args.values.ends.now (from_le_bytes w32) in
    let w : c.pass_over-start.result.0 ≤ length c.args.lengths.now = c.pass_over-start.ensures.within in
    record {
      within = omega arith;
      lined = passed_over c.pass_over-start.result.0 values lengths c.pass_over-start.result.1 c.args.from (omega (arith, w, m)) (omega (arith, w, l)) c.pass_over-start.ensures.rows;
    }

pub loop-run-preserved-then-rows-skip : goal.loop-run-preserved-then-rows-skip
loop-run-preserved-then-rows-skip c =
    let now : Bor (List ℕ) → List ℕ = λ t. t.now in
    let values : List (List ℕ) = texts_in c.args.values.ends.now c.args.values.joined.now in
    let lengths : List ℕ = codes_in c.args.lengths.now in
    let all : List (List ℕ) = drop c.args.from (repeats values lengths) in
    let run : ℕ = c.loop-run.run in
    let front : List (List ℕ) = take c.loop-run.done (map now c.loop-run.out) in
    let l : length lengths ≡ length c.args.lengths.now = length-map c.args.lengths.now (from_le_bytes w16) in
    let m : length values ≡ length c.args.values.ends.now
    = length-texts_from 0 (ends_in c.args.values.ends.now) c.args.values.joined.now ∙ length-map c.args.values.ends.now (from_le_bytes w32) in
    let h : run < length values = omega (arith, m) in
    let k : run < length lengths = omega (arith, l) in
    let f : c.from_le_bytes-rows.result ≡ get_or lengths run 0
    = c.from_le_bytes-rows.ensures ∙ sym (get_or-map (from_le_bytes w16) c.args.lengths.now run [] 0 (omega arith)) in
    record {
      within = c.loop-run.invariant.within;
      lined = lined_skipped front c.loop-run.skip values lengths run all [] c.from_le_bytes-rows.result c.loop-run.invariant.lined h k f c.if-rows-skip.true;
    }

pub returns-then-done-out : goal.returns-then-done-out
returns-then-done-out c =
    let now : Bor (List ℕ) → List ℕ = λ t. t.now in
    let values : List (List ℕ) = texts_in c.args.values.ends.now c.args.values.joined.now in
    let lengths : List ℕ = codes_in c.args.lengths.now in
    let all : List (List ℕ) = drop c.args.from (repeats values lengths) in
    let run : ℕ = c.loop-run.run in
    let front : List (List ℕ) = take c.loop-run.done (map now c.loop-run.out) in
    let l : length lengths ≡ length c.args.lengths.now = length-map c.args.lengths.now (from_le_bytes w16) in
    let m : length values ≡ length c.args.values.ends.now
    = length-texts_from 0 (ends_in c.args.values.ends.now) c.args.values.joined.now ∙ length-map c.args.values.ends.now (from_le_bytes w32) in
    let h : run < length values = omega (arith, m) in
    let k : run < length lengths = omega (arith, l) in
    let f : c.from_le_bytes-rows.result ≡ get_or lengths run 0
    = c.from_le_bytes-rows.ensures ∙ sym (get_or-map (from_le_bytes w16) c.args.lengths.now run [] 0 (omega arith)) in
    let g : c.text_at.result.now ≡ get_or values run [] = c.text_at.ensures in
    let lo : length (map now c.loop-run.out) ≡ length c.args.out.now = length-map c.loop-run.out now ∙ c.loop-run.auto.out in
    let ln : length (map now c.put_texts.new.out) ≡ length (map now c.loop-run.out)
    = length-map c.put_texts.new.out now ∙ (let e : length c.put_texts.new.out ≡ length c.loop-run.out = omega arith in e) ∙ sym (length-map c.loop-run.out now) in
    let n : ℕ = c.min-n.result in
    let total : ℕ = c.loop-run.done + n in
    let filled : List (List ℕ) = take total (map now c.put_texts.new.out) in
    let b : length front ≡ c.loop-run.done = length-take-le c.loop-run.done (map now c.loop-run.out) (omega (arith, lo)) in
    let q : length front + n ≡ length c.args.out.now = omega (arith, b, lo, ln) in
    let whole : filled ≡ (map now c.put_texts.new.out) = take_all total (map now c.put_texts.new.out) (omega (arith, lo, ln)) in
    sym whole
    ∙ lined_full front c.loop-run.skip values lengths run all [] c.text_at.result.now c.from_le_bytes-rows.result n filled (length c.args.out.now)
    c.loop-run.invariant.lined h k f (omega arith) g (omega arith) c.put_texts.ensures q

pub loop-run-preserved : goal.loop-run-preserved
loop-run-preserved c =
    let now : Bor (List ℕ) → List ℕ = λ t. t.now in
    let values : List (List ℕ) = texts_in c.args.values.ends.now c.args.values.joined.now in
    let lengths : List ℕ = codes_in c.args.lengths.now in
    let all : List (List ℕ) = drop c.args.from (repeats values lengths) in
    let run : ℕ = c.loop-run.run in
    let front : List (List ℕ) = take c.loop-run.done (map now c.loop-run.out) in
    let l : length lengths ≡ length c.args.lengths.now = length-map c.args.lengths.now (from_le_bytes w16) in
    let m : length values ≡ length c.args.values.ends.now
    = length-texts_from 0 (ends_in c.args.values.ends.now) c.args.values.joined.now ∙ length-map c.args.values.ends.now (from_le_bytes w32) in
    let h : run < length values = omega (arith, m) in
    let k : run < length lengths = omega (arith, l) in
    let f : c.from_le_bytes-rows.result ≡ get_or lengths run 0
    = c.from_le_bytes-rows.ensures ∙ sym (get_or-map (from_le_bytes w16) c.args.lengths.now run [] 0 (omega arith)) in
    let g : c.text_at.result.now ≡ get_or values run [] = c.text_at.ensures in
    let lo : length (map now c.loop-run.out) ≡ length c.args.out.now = length-map c.loop-run.out now ∙ c.loop-run.auto.out in
    let ln : length (map now c.put_texts.new.out) ≡ length (map now c.loop-run.out)
    = length-map c.put_texts.new.out now ∙ (let e : length c.put_texts.new.out ≡ length c.loop-run.out = omega arith in e) ∙ sym (length-map c.loop-run.out now) in
    let n : ℕ = c.min-n.result in
    record {
      within = omega arith;
      lined = lined_filled front c.loop-run.skip values lengths run all [] c.text_at.result.now c.from_le_bytes-rows.result n (take (c.loop-run.done + n) (map now c.put_texts.new.out))
          c.loop-run.invariant.lined h k f (omega arith) g (omega (arith, lo, ln)) c.put_texts.ensures;
    }

pub returns : goal.returns
returns c =
    let now : Bor (List ℕ) → List ℕ = λ t. t.now in
    let values : List (List ℕ) = texts_in c.args.values.ends.now c.args.values.joined.now in
    let lengths : List ℕ = codes_in c.args.lengths.now in
    let all : List (List ℕ) = drop c.args.from (repeats values lengths) in
    let run : ℕ = c.loop-run.run in
    let front : List (List ℕ) = take c.loop-run.done (map now c.loop-run.out) in
    let l : length lengths ≡ length c.args.lengths.now = length-map c.args.lengths.now (from_le_bytes w16) in
    let m : length values ≡ length c.args.values.ends.now
    = length-texts_from 0 (ends_in c.args.values.ends.now) c.args.values.joined.now ∙ length-map c.args.values.ends.now (from_le_bytes w32) in
    let lo : length (map now c.loop-run.out) ≡ length c.args.out.now = length-map c.loop-run.out now ∙ c.loop-run.auto.out in
    let e : length (map now c.loop-run.out) ≤ length all = runs_enough values lengths c.args.from (length (map now c.loop-run.out)) (omega (arith, l, m)) (omega (arith, lo)) in
    lined_over (map now c.loop-run.out) c.loop-run.done c.loop-run.skip values lengths run all c.loop-run.invariant.lined (omega (arith, m)) e (omega (arith, lo))
    ∙ ap (λ (j : ℕ). take j all) lo
