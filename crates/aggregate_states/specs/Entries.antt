-- Entries, and what is kept of them.
use Rattle.std.specs.Prelude.{ℕ, ◌==◌, List, [], ◌∷◌, map, filter}
use Rattle.std.specs.List.{enumerate_from}
use Rattle.meaning.specs.declared.value.Value.{Value}
use Rattle.meaning.specs.declared.plan.AggregateKind.{AggregateKind}
use Rattle.meaning.specs.declared.answer.Statistics.{Statistics}
use Rattle.meaning.specs.Aggregate.{no_statistics, statistics, kept_by, merge}

-- what an aggregate of this kind keeps of some entries
abbrev pub state_of : AggregateKind → List Value → Statistics
state_of kind entries = kept_by kind (statistics entries)

-- what an aggregate of this kind keeps of all the entries of which these states know
abbrev pub together : AggregateKind → List Statistics → Statistics
together kind [] = no_statistics
together kind (s ∷ states) = merge (kept_by kind s) (together kind states)

-- what goes to a group index
abbrev pub of_group : {X : Type 0} → ℕ → List (ℕ × X) → List X
of_group group_index indexed = map (λ p. p.1) (filter (λ p. p.0 == group_index) indexed)

-- each state merged with that of the entries at its group index
abbrev pub with_entries : AggregateKind → List Statistics → List (ℕ × Value) → List Statistics
with_entries kind states indexed = map (λ s. merge s.1 (state_of kind (of_group s.0 indexed))) (enumerate_from 0 states)

-- each state merged with those at its group index
abbrev pub with_states : AggregateKind → List Statistics → List (ℕ × Statistics) → List Statistics
with_states kind states indexed = map (λ s. merge s.1 (together kind (of_group s.0 indexed))) (enumerate_from 0 states)
