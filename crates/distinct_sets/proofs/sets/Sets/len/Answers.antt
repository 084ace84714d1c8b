-- Proofs of the goals of `Sets::len` (`sets`).
use Rattle.std.proofs.Common.{length, sym, ap, ◌∙◌}
use Rattle.std.proofs.lemmas.List.FromFn.{length-map-range_with_len}
use Rattle.distinct_sets.specs.Sets.{set_at}
use Rattle.distinct_sets.proofs.sets.Sets.len.Goals as goal

pub returns : goal.returns
returns c = sym (length-map-range_with_len (set_at c.self.inside.list) 0 c.self.inside.groups) ∙ ap length c.self.view_is
