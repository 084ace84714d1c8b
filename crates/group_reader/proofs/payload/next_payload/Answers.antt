-- Proofs of the goals of `next_payload` (`payload`).
use Rattle.std.proofs.Common.{rules, ◌≡◌, ◌≤◌, ◌+◌, ◌-◌, ◌++◌, length, drop, refl, sym, subst, arith}
use Rattle.std.proofs.lemmas.Result.{err_from_is_err_and}
use Rattle.group_reader.specs.Source.{Yields}
use Rattle.group_reader.proofs.Pieces.{begins_all, begins_then, behind_all, behind_more, length_behind, piece_failed, pieces_read}
use Rattle.group_reader.proofs.Telling.{before, took_bytes, yields_both, yields_nothing}
use Rattle.group_reader.proofs.payload.next_payload.Goals as goal

pub loop-left-init : goal.loop-left-init
loop-left-init g c =
    let old = c.args.bytes.now.items in (
      begins_all old,
      omega arith,
      omega arith,
      subst (Yields g.R.Read.remaining c.args.source.now c.args.source.now) (sym (behind_all old)) (yields_nothing g.R.Read.remaining c.args.source.now),
    )

pub returns-in_err-next_piece-clause-read : goal.returns-in_err-next_piece-clause-read
returns-in_err-next_piece-clause-read g c =
    let old = c.args.bytes.now.items in
    let here = c.loop-left.bytes.items in
    let inv = c.loop-left.invariant in
    let small : c.min-size.result ≤ c.loop-left.left = search rules in
    let long = length_behind old here (c.args.count - c.loop-left.left) inv.1 in
    let most : length (drop (length old) here) + c.min-size.result ≤ c.args.count = omega (arith, long, small, inv.2) in
    let p = err_from_is_err_and c.from_residual.result c.from_residual.ensures.1 in
    rw (p.1, p.2) (λ no_memory no_device.
    let wrong = c.in_err-next_piece.ensures.read no_memory no_device in (
      drop (length old) here ++ wrong.0,
      before _ _ _ (drop (length old) here) wrong.0 inv.3 wrong.1,
      piece_failed (drop (length old) here) wrong.0 (drop (length old) here ++ wrong.0) c.min-size.result c.args.count _ refl most wrong.2,
    ))

pub loop-left-preserved : goal.loop-left-preserved
loop-left-preserved g c =
    let old = c.args.bytes.now.items in
    let here = c.loop-left.bytes.items in
    let new = c.next_piece.new.bytes.items in
    let inv = c.loop-left.invariant in
    let small : c.min-size.result ≤ c.loop-left.left = search rules in
    let kept = c.in_ok-next_piece.ensures.kept in
    let more = c.in_ok-next_piece.ensures.more in (
      begins_then old here new inv.0 kept,
      omega (arith, more, inv.1, inv.2, small),
      omega (arith, inv.2),
      subst (Yields g.R.Read.remaining c.args.source.now c.next_piece.new.source) (sym (behind_more old here new inv.0 kept))
          (yields_both _ _ _ _ (drop (length old) here) (drop (length here) new) inv.3 (took_bytes _ _ _ c.min-size.result (drop (length here) new) c.in_ok-next_piece.ensures.read)),
    )

pub returns-clause-read : goal.returns-clause-read
returns-clause-read g c =
    let old = c.args.bytes.now.items in
    let here = c.loop-left.bytes.items in
    let inv = c.loop-left.invariant in
    let long : length (drop (length old) here) ≡ c.args.count = omega (arith, length_behind old here (c.args.count - c.loop-left.left) inv.1, c.loop-left-test.false) in
    (drop (length old) here, inv.3, (λ rest. pieces_read (drop (length old) here) rest (drop (length old) here ++ rest) c.args.count refl long))
