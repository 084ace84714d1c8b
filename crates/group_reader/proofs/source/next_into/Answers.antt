-- Proofs of the goals of `next_into` (`source`).
use Rattle.std.proofs.Common.{rules, ◌≡◌, ◌-◌, length, sym}
use Rattle.std.proofs.lemmas.List.{drop_at}
use Rattle.group_reader.proofs.Telling.{bytes_told}
use Rattle.group_reader.proofs.source.next_into.Goals as goal

pub returns-clause-read : goal.returns-clause-read
returns-clause-read g c =
    let front : length c.split_at_mut-room.result.0.now ≡ c.args.at = search rules in
    bytes_told _ _ _ _ (length c.args.out.now - c.args.at) _ _ _ (sym (drop_at c.split_at_mut-room.result.0.now c.next_bytes.new.out c.args.at front)) (search rules) c.next_bytes.ensures
