-- Proofs of the goals of `like_by_bytes` (`laws`).
use Rattle.meaning.proofs.LikeBytes.{like_bytes}
use Rattle.meaning_laws.proofs.laws.like_by_bytes.Goals as goal

pub returns : goal.returns
returns c = like_bytes
