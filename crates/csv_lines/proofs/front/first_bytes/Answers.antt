-- Proofs of the goals of `first_bytes` (`front`).
use Rattle.std.proofs.Common.{◌≡◌, ◌≤◌, ◌<◌, ◌∙◌, ◌+◌, [], ◌∷◌, ◌++◌, length, refl, sym, ap, arith, append_assoc}
use Rattle.std.proofs.lemmas.List.{length_push}
use Rattle.loader.proofs.Marks.{none_read, one_read}
use Rattle.csv_lines.proofs.front.first_bytes.Goals as goal

pub returns-in_default-clause-first : goal.returns-in_default-clause-first
returns-in_default-clause-first g c = λ bytes known.
    let (rest, left, whole) = c.loop.invariant.2 bytes known in
    let (now, none) = none_read (g.R.Read.remaining c.next_byte.new.reader) rest c.in_ok-byte.field-0 c.in_default.is (c.in_ok-byte.ensures.read rest left) in
    ([], now, whole ∙ ap (λ xs. c.loop.front.items ++ xs) none, λ few. refl)

pub returns-in_default-clause-few : goal.returns-in_default-clause-few
returns-in_default-clause-few g c = let long = c.loop.invariant.0 in let few = c.loop.invariant.1 in omega (arith, long, few)

pub loop-preserved : goal.loop-preserved
loop-preserved g c = rw c.in_ok-push.ensures.items (
  length_push c.loop.front.items c.in-Some.byte ∙ ap (λ n. n + 1) c.loop.invariant.0,
  (let more = c.loop-test.true in omega (arith, more)),
  λ bytes known.
      let (rest, left, whole) = c.loop.invariant.2 bytes known in
      let (others, now, are) = one_read (g.R.Read.remaining c.next_byte.new.reader) rest c.in_ok-byte.field-0 c.in-Some.byte c.in-Some.is (c.in_ok-byte.ensures.read rest left) in
      (others, now, whole ∙ ap (λ xs. c.loop.front.items ++ xs) are ∙ sym (append_assoc c.loop.front.items (c.in-Some.byte ∷ []) others)),
)

pub returns-clause-first : goal.returns-clause-first
returns-clause-first g c = λ bytes known.
    let (rest, left, whole) = c.loop.invariant.2 bytes known in
    let long = c.loop.invariant.0 in
    let past = c.loop-test.false in
    (rest, left, whole, λ few. absurd (omega (arith, long, past, few)))

pub returns-clause-few : goal.returns-clause-few
returns-clause-few g c = let long = c.loop.invariant.0 in let few = c.loop.invariant.1 in omega (arith, long, few)
