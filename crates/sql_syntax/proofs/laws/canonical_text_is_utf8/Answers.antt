-- Proofs of the goals of `canonical_text_is_utf8` (`laws`).
use Rattle.sql_syntax.proofs.Utf8Canonical.{canonical_utf8}
use Rattle.sql_syntax.proofs.laws.canonical_text_is_utf8.Goals as goal

pub returns : goal.returns
returns c = canonical_utf8
