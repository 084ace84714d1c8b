-- Sets keep no extremes.
use Rattle.std.proofs.Common.{◌≡◌, ℕ, zero, suc, List, [], ◌∷◌, map, get_or, None, refl}
use Rattle.meaning.specs.Aggregate.{no_statistics}
use Rattle.aggregate_states.specs.declared.end.End.{End}
use Rattle.aggregate_states.specs.declared.end.End.TheVariants.{Least, Greatest}
use Rattle.aggregate_states.specs.Kinds.{extreme_of}
use Rattle.distinct_sets.specs.declared.entry.Entry.{Entry}
use Rattle.distinct_sets.specs.Sets.{set_at}

pub keep_none : (end : End) (entries : List Entry) (groups : List ℕ) (k : ℕ) → None ≡ extreme_of end (get_or (map (set_at entries) groups) k no_statistics)
keep_none Least entries [] k = refl
keep_none Least entries (g ∷ groups) zero = refl
keep_none Least entries (g ∷ groups) (suc k) = keep_none Least entries groups k
keep_none Greatest entries [] k = refl
keep_none Greatest entries (g ∷ groups) zero = refl
keep_none Greatest entries (g ∷ groups) (suc k) = keep_none Greatest entries groups k
