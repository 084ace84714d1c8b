-- Proofs of the goals of `reads_columns_used` (`laws`).
use Rattle.meaning.proofs.ColumnsUsed as lemma
use Rattle.meaning_laws.proofs.laws.reads_columns_used.Goals as goal

pub returns-clause-evaluated : goal.returns-clause-evaluated
returns-clause-evaluated c = lemma.reads_columns_used

pub returns-clause-judged : goal.returns-clause-judged
returns-clause-judged c = lemma.judges_columns_used
