-- Loop invariants of `put_aggregates` (`encoding`).
use Rattle.std.proofs.Common.{◌≡◌, ◌++◌, take, map}
use Rattle.std.specs.List.{flat_map}
use Rattle.answer_fields.specs.Shape.{shape_of_aggregate}
use Rattle.partial_codec.specs.Spelling.{aggregate_bytes}
use Rattle.partial_codec.proofs.encoding.put_aggregates.Given as goal

abbrev pub invariant-loop-aggregate : goal.invariant-loop-aggregate
invariant-loop-aggregate l =
    l.out.items ≡ l.fn.out.items ++ flat_map aggregate_bytes (map shape_of_aggregate (take l.aggregate-index l.aggregates))
