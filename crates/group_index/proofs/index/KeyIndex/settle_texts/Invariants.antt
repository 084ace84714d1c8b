-- Invariants of `settle_texts` (`index`).
use Rattle.group_keys.specs.Rows.{text_keys}
use Rattle.group_index.proofs.LedKeys.{AreLed}
use Rattle.group_index.proofs.index.KeyIndex.settle_texts.Given as goal

-- the texts up to the k-th have their group indexes
abbrev pub invariant-loop-k : goal.invariant-loop-k
invariant-loop-k l = AreLed (text_keys l.texts) l.fn.self.keys l.k l.group_indexes.items l.self.keys
