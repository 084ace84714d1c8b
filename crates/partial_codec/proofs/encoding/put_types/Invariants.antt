-- Loop invariants of `put_types` (`encoding`).
use Rattle.std.proofs.Common.{◌≡◌, ◌++◌, take, map}
use Rattle.std.specs.List.{flat_map}
use Rattle.wire.specs.Bytes.{number_bytes}
use Rattle.meaning.specs.TypeCodes.{type_code}
use Rattle.partial_codec.proofs.encoding.put_types.Given as goal

abbrev pub invariant-loop-key : goal.invariant-loop-key
invariant-loop-key l =
    l.out.items ≡ l.fn.out.items ++ flat_map (λ t. number_bytes 1 (type_code t)) (map (λ k. k.col_type) (take l.key-index l.keys))
