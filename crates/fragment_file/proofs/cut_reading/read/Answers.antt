-- Proofs of the goals of `read` (`cut_reading`).
use Rattle.std.proofs.Common.{◌≡◌, ◌&&◌, true}
use Rattle.std.specs.Prelude.{nat_le}
use Rattle.meaning.specs.Limits.{max_fragments}
use Rattle.wire.proofs.Numbers.{number_takes}
use Rattle.wire.proofs.Seals.{magic_takes}
use Rattle.fragment_file.proofs.CutLaws.{cut_from}
use Rattle.fragment_file.proofs.cut_reading.read.Goals as goal

pub cut_of-requires : goal.cut_of-requires
cut_of-requires c =
    let magic = magic_takes _ c.args.bytes.now c.in_ok-rest.rest.now (λ i. (c.type_inv.bytes i).fits) c.in_ok-rest.ensures in
    let load = number_takes 8 c.in_ok-rest.rest.now c.in_ok-load.load c.in_ok-load.rest.now magic.rest_fits c.in_ok-load.ensures in
    let count = number_takes 4 c.in_ok-load.rest.now c.in_ok-count.count c.in_ok-count.rest.now load.0.rest_fits c.in_ok-count.ensures in
    let kept : (nat_le 1 c.in_ok-count.count && nat_le c.in_ok-count.count max_fragments) ≡ true = cc in
    cut_from c.in_ok-count.count c.in_ok-count.rest.now (c.in_ok-lengths.lengths.items, c.in_ok-lengths.rest.now) count.0.rest_fits kept c.in_ok-lengths.ensures
