-- Loop invariants of `sorted_out` (`reading`).
use Rattle.std.proofs.Common.{◌≡◌}
use Rattle.catalog_reader.specs.CatalogText.{facts, dims}
use Rattle.catalog_reader.proofs.reading.sorted_out.Given as goal

abbrev pub invariant-loop-declared : goal.invariant-loop-declared
invariant-loop-declared l =
    (l.found_facts.items ≡ facts l.yielded) × (l.found_dims.items ≡ dims l.yielded)
