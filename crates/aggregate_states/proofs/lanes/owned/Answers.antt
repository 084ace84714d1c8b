-- Proofs of the goals of `owned` (`lanes`).
use Rattle.std.proofs.Common.{◌≡◌, true, subst}
use Rattle.meaning.specs.declared.value.Value.{Value}
use Rattle.aggregate_states.specs.Values.{is_spelled}
use Rattle.aggregate_states.proofs.lanes.owned.Goals as goal

pub to_value-requires : goal.to_value-requires
to_value-requires c = λ text is. subst (λ (v : Value). is_spelled v ≡ true) is c.requires
