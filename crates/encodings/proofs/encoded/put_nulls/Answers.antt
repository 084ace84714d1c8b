-- Proofs of the goals of `put_nulls` (`encoded`).
use Rattle.std.proofs.Common.{◌≡◌, rules, true}
use Rattle.encodings.proofs.EncodedBlocks.{mask_put}
use Rattle.encodings.proofs.encoded.put_nulls.Goals as goal

pub returns-in_ok-put_mask : goal.returns-in_ok-put_mask
returns-in_ok-put_mask c =
    let nullable : c.args.column.now.nullable ≡ true = search rules in
    mask_put c.args.out.now.items c.put_mask.new.out.items c.args.column.now c.args.from c.args.to c.in-Some.nulls.now nullable c.in-Some.ensures.values c.in_ok-put_mask.ensures c.type_inv.out
