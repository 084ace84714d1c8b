-- Proofs of the goals of `next_piece` (`payload`).
use Rattle.std.proofs.Common.{rules, ◌≡◌, ◌-◌, ◌++◌, length, take, drop, sym, ◌∙◌}
use Rattle.std.proofs.lemmas.List.{take_at}
use Rattle.group_reader.proofs.Telling.{bytes_told}
use Rattle.group_reader.proofs.payload.next_piece.Goals as goal

pub returns-clause-read : goal.returns-clause-read
returns-clause-read g c =
    let start = c.len-start.result in
    let vec = c.resize.new.self in
    let out = c.next_into.new.out in
    let size : length out ≡ vec.len = c.next_into.auto.out ∙ c.as_mut_slice.ensures.len in
    let long : length c.as_mut_slice.result.now - start ≡ c.args.count = search rules in
    let from : start ≡ length c.args.bytes.now.items = search rules in
    let back : out ≡ take vec.len (out ++ drop (length out) vec.items) = sym (take_at out (drop (length out) vec.items) vec.len size) in
    bytes_told _ _ _ _ c.args.count _ _ _ (λ i. drop (from i) (back i)) long c.next_into.ensures.read
