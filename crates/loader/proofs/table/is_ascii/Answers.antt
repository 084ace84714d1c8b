-- Proofs of the goals of `is_ascii` (`table`).
use Rattle.std.proofs.Common.{subst}
use Rattle.std.specs.Prelude.{MatchBool}
use Rattle.std.specs.Str.{IsAscii, IsNotAscii}
use Rattle.loader.proofs.TextFields.{ascii_fields}
use Rattle.loader.proofs.table.is_ascii.Goals as goal

pub returns : goal.returns
returns c = λ e.
    let bytes = c.args.fields.now.bytes in
    let ascii = subst (λ b. MatchBool b (IsAscii c.as_slice.result.now) (IsNotAscii c.as_slice.result.now)) e c.is_ascii.ensures.cases in
    ascii_fields 0 c.args.fields.now.ends bytes (subst IsAscii c.as_slice.ensures ascii)
