-- Proofs of the goals of `next_bytes` (`source`).
use Rattle.std.proofs.Common.{◌≡◌, ◌++◌, [], List, ℕ, Some, refl, ap, ◌∙◌, rules, append-nil, length, take}
use Rattle.group_reader.proofs.Pieces.{pieces_read}
use Rattle.group_reader.proofs.Reading.{filled_short, full_parts, too_few}
use Rattle.group_reader.proofs.source.next_bytes.Goals as goal

pub returns-then-count-out : goal.returns-then-count-out
returns-then-count-out g c no_memory no_device =
    let out = c.fill.new.out in
    let count = c.in_ok-count.count in
    let long : length out ≡ length c.args.out.now = search rules in (
      take count out,
      (λ bytes known.
          let filled = c.in_ok-count.ensures.filled bytes known in
          filled.2 ∙ ap (λ (rest : List ℕ). take count out ++ rest) (filled.3 c.if-count-out.true) ∙ append-nil (take count out)),
      too_few (Some []) (take count out) count (length c.args.out.now) out (filled_short count out) long c.if-count-out.true,
    )

pub returns : goal.returns
returns g c =
    let out = c.fill.new.out in
    let long : length out ≡ length c.args.out.now = search rules in (
      out,
      record {
        left = λ bytes known.
            let filled = c.in_ok-count.ensures.filled bytes known in
            (filled.0, filled.1, full_parts _ bytes c.in_ok-count.count out filled c.if-count-out.false);
        hashed = λ front holds. c.update.ensures front holds;
      },
      (λ rest. pieces_read out rest (out ++ rest) (length c.args.out.now) refl long),
    )
