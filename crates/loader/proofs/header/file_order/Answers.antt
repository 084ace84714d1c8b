-- Proofs of the goals of `file_order` (`header`).
use Rattle.std.proofs.Common.{Bor, ℕ, List, rules}
use Rattle.std.specs.Prelude.{position, unwrap_or}
use Rattle.meaning.specs.Records as declared
use Rattle.loader.proofs.Fields.{map_map}
use Rattle.loader.proofs.header.file_order.Goals as goal

pub returns : goal.returns
returns c = rw (map_map (λ (field : Bor (List ℕ)). field.now) (λ field. unwrap_or (position (declared.names field) c.args.columns.now) 0) c.args.header.now) (search rules)
