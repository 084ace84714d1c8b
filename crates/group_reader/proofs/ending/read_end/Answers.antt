-- Proofs of the goals of `read_end` (`ending`).
use Rattle.std.proofs.Common.{rules, ◌≡◌, ◌≤◌, ◌<◌, ◌++◌, List, ℕ, [], Some, length, take, refl, ap, ◌∙◌, append-nil, arith}
use Rattle.group_reader.proofs.Reading.{filled_short, full_parts}
use Rattle.group_reader.proofs.Sealed.{end_full, end_short, none_left, other_seal, right_seal, some_more, trailing}
use Rattle.group_reader.proofs.Telling.{some_left}
use Rattle.group_reader.proofs.ending.read_end.Goals as goal

pub returns-then-sealed-lt-SEAL_BYTES : goal.returns-then-sealed-lt-SEAL_BYTES
returns-then-sealed-lt-SEAL_BYTES g c no_memory no_device front holds =
    let seal = c.fill.new.out in
    let sealed = c.in_ok-sealed.sealed in
    let long : length seal ≡ 32 = search rules in
    let few : sealed < length seal = omega (arith, long, c.if-sealed-lt-SEAL_BYTES.true) in (
      take sealed seal,
      (λ bytes known.
          let filled = c.in_ok-sealed.ensures.filled bytes known in
          filled.2 ∙ ap (λ (rest : List ℕ). take sealed seal ++ rest) (filled.3 few) ∙ append-nil (take sealed seal)),
      end_short (Some []) (front ++ take sealed seal) (take sealed seal) sealed seal (filled_short sealed seal) long few,
    )

pub returns-then-trailing-gt0 : goal.returns-then-trailing-gt0
returns-then-trailing-gt0 g c no_memory no_device front holds =
    let seal = c.fill.new.out in
    let sealed = c.in_ok-sealed.sealed in
    let more = c.fill-2.new.out in
    let count = c.in_ok-trailing.trailing in
    let long : length seal ≡ 32 = search rules in
    let most : length seal ≤ sealed = omega (arith, long, c.if-sealed-lt-SEAL_BYTES.false) in
    let some = some_left (g.R.Read.remaining c.fill-2.new.reader) in
    let tail = take count more ++ some.0 in (
      seal ++ tail,
      (λ bytes known.
          let filled = c.in_ok-sealed.ensures.filled bytes known in
          let others = c.in_ok-trailing.ensures.filled filled.0 filled.1 in
          full_parts _ bytes sealed seal filled most ∙ ap (λ (rest : List ℕ). seal ++ rest) (others.2 ∙ ap (λ (rest : List ℕ). take count more ++ rest) (some.1 others.0 others.1))),
      end_full (front ++ (seal ++ tail)) tail sealed seal long most
          ∙ trailing (front ++ (seal ++ tail)) seal tail (some_more some.0 count more c.in_ok-trailing.ensures.within c.if-trailing-gt0.true),
    )

pub returns-then-ne : goal.returns-then-ne
returns-then-ne g c no_memory no_device front holds =
    let seal = c.fill.new.out in
    let sealed = c.in_ok-sealed.sealed in
    let more = c.fill-2.new.out in
    let long : length seal ≡ 32 = search rules in
    let one : length more ≡ 1 = search rules in
    let most : length seal ≤ sealed = omega (arith, long, c.if-sealed-lt-SEAL_BYTES.false) in (
      seal ++ [],
      (λ bytes known.
          let filled = c.in_ok-sealed.ensures.filled bytes known in
          let others = c.in_ok-trailing.ensures.filled filled.0 filled.1 in
          full_parts _ bytes sealed seal filled most ∙ ap (λ (rest : List ℕ). seal ++ rest) (none_left _ filled.0 c.in_ok-trailing.trailing more others one c.if-trailing-gt0.false)),
      end_full (front ++ (seal ++ [])) [] sealed seal long most
          ∙ other_seal front seal (seal ++ []) [] (front ++ (seal ++ [])) c.seal_now.result c.ne.result refl refl refl long (c.seal_now.ensures front holds)
          (rw (c.as_slice.ensures, c.as_slice-2.ensures) at c.ne.ensures) c.if-ne.true,
    )

pub returns : goal.returns
returns g c front holds =
    let seal = c.fill.new.out in
    let sealed = c.in_ok-sealed.sealed in
    let more = c.fill-2.new.out in
    let long : length seal ≡ 32 = search rules in
    let one : length more ≡ 1 = search rules in
    let most : length seal ≤ sealed = omega (arith, long, c.if-sealed-lt-SEAL_BYTES.false) in (
      seal ++ [],
      (λ bytes known.
          let filled = c.in_ok-sealed.ensures.filled bytes known in
          let others = c.in_ok-trailing.ensures.filled filled.0 filled.1 in
          full_parts _ bytes sealed seal filled most ∙ ap (λ (rest : List ℕ). seal ++ rest) (none_left _ filled.0 c.in_ok-trailing.trailing more others one c.if-trailing-gt0.false)),
      end_full (front ++ (seal ++ [])) [] sealed seal long most
          ∙ right_seal front seal (seal ++ []) [] (front ++ (seal ++ [])) c.seal_now.result c.ne.result refl refl refl long (c.seal_now.ensures front holds)
          (rw (c.as_slice.ensures, c.as_slice-2.ensures) at c.ne.ensures) c.if-ne.false,
    )
