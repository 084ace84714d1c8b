-- Proofs of the goals of `canonical_text_reads_back` (`laws`).
use Rattle.sql_syntax.proofs.ApartQuery.{canonical_again}
use Rattle.sql_syntax.proofs.Utf8Canonical.{canonical_utf8}
use Rattle.sql_reader.proofs.laws.canonical_text_reads_back.Goals as goal

pub returns : goal.returns
returns c = λ bs q tree. record { utf8 = canonical_utf8 bs q tree.utf8 tree.spells; spells = canonical_again bs q tree.spells }
