-- The values that a block has for its rows to name.
use Rattle.std.specs.Prelude.{◌≡◌, ℕ, ◌+◌, ◌≤◌, sum, Bool, true, false, if◌then◌else◌, List, [], length, map, get_or}
use Rattle.std.specs.List.{range_with_len}
use Rattle.meaning.specs.declared.value.Value.{Value}
use Rattle.meaning.specs.declared.value.Value.TheVariants.{Null}
use Rattle.blocks.specs.declared.kind.Kind.{Kind}
use Rattle.blocks.specs.declared.kind.Kind.TheVariants as kind
use Rattle.blocks.specs.Block.{Block}
use Rattle.blocks.specs.Runs.{repeats}
use Rattle.blocks.specs.DictionaryView.{dictionary_in}
use Rattle.blocks.specs.RunsView.{runs_in}
use Rattle.block_predicates.specs.declared.entries.Entries.{Entries}
use Rattle.block_predicates.specs.declared.entries.Entries.TheVariants as entries

-- a dictionary and runs have entries
abbrev pub has_entries : Kind → Bool
has_entries kind.Plain = false
has_entries kind.Dict = true
has_entries kind.Runs = true
has_entries kind.Frame = false

abbrev pub entries_by : Kind → Block → List Value
entries_by kind.Plain b = []
entries_by kind.Dict b = (dictionary_in b).entries
entries_by kind.Runs b = (runs_in b).values
entries_by kind.Frame b = []

-- the entries of the dictionary, or the value of each run
abbrev pub entries_in : Block → List Value
entries_in b = entries_by b.kind b

-- with NULL behind them, where the column is nullable
abbrev pub lane_count : Block → ℕ
lane_count b = length (entries_in b) + (if b.nullable then 1 else 0)

-- so many lanes: the entries, and NULL behind the last
abbrev pub lanes_of : List Value → ℕ → List Value
lanes_of entries count = map (λ i. get_or entries i Null) (range_with_len 0 count)

-- ---- as they are lent

abbrev pub values_in : Entries → List Value
values_in (entries.Dictionary d) = d.entries
values_in (entries.Runs r) = r.values

abbrev pub AreEntriesOf : Block → Entries → Type 0
AreEntriesOf b (entries.Dictionary d) = (b.kind ≡ kind.Dict) × (d ≡ dictionary_in b)
AreEntriesOf b (entries.Runs r) = (b.kind ≡ kind.Runs) × (r ≡ runs_in b)

-- how many rows the runs have
abbrev pub rows_in : Entries → ℕ
rows_in (entries.Dictionary d) = 0
rows_in (entries.Runs r) = sum r.lengths

abbrev pub rows_long : Entries → ℕ → Type 0
rows_long (entries.Dictionary d) n = Unit {0}
rows_long (entries.Runs r) n = length r.lengths ≤ n

-- marks of entries as a row finds them: by its code in a dictionary, in its own place among runs
abbrev pub AreFound : Entries → List Bool → List Bool → Type 0
AreFound (entries.Dictionary d) marks found = found ≡ marks
AreFound (entries.Runs r) marks found = found ≡ repeats marks r.lengths
