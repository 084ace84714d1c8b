-- The keys that a dimension's rows have so far.
use Rattle.std.specs.Prelude.{◌≡◌, false, List}
use Rattle.std.specs.List.{list_any}
use Rattle.std.specs.BTreeSet.{BTreeSet, contains}
use Rattle.meaning.specs.declared.value.Value.{Value}
use Rattle.meaning.specs.Order.{value_cmp, is_null, same_value}

-- a set has just the keys that aren't NULL
abbrev pub HoldsKeys : BTreeSet Value → List Value → Type 0
HoldsKeys set seen = (q : Value) → is_null q ≡ false → contains value_cmp set q ≡ list_any (same_value q) seen
