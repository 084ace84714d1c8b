-- Loop invariants of `put_job` (`encoding`).
use Rattle.std.proofs.Common.{◌≡◌, ◌++◌, length, take}
use Rattle.std.specs.List.{flat_map}
use Rattle.wire.specs.Bytes.{number_bytes, text_bytes}
use Rattle.partial_codec.proofs.encoding.put_job.Given as goal

abbrev pub invariant-loop-length : goal.invariant-loop-length
invariant-loop-length l =
    l.out.items ≡ l.fn.out.items ++ (number_bytes 8 l.load ++ text_bytes 4 l.text ++ number_bytes 4 (length l.lengths) ++ flat_map (number_bytes 4) (take l.length-index l.lengths))
