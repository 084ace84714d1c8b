-- Proofs of the goals of `location_of` (`groups`).
use Rattle.std.proofs.Common.{◌-◌, List, ℕ, length, refl, ap}
use Rattle.fragment_file.specs.declared.view.BlockLocation.{BlockLocation}
use Rattle.fragment_file.proofs.Locations.{location_is}
use Rattle.fragment_file.proofs.groups.location_of.Goals as goal

pub returns-clause-value : goal.returns-clause-value
returns-clause-value c =
    let end = length c.args.bytes.now - length c.args.rest.now in
    let location : BlockLocation = record { kind = c.kind.result; col_type = c.col_type.result; nullable = c.nullable.result; rows = c.len.result; start = end - length c.payload.result.now; end = end } in
    location_is c.args.bytes.now location c.args.block.now c.args.rest.now c.requires c.kind.ensures c.col_type.ensures c.nullable.ensures c.len.ensures.value refl
    (ap (λ (payload : List ℕ). end - length payload) c.payload.ensures)
