-- Proofs of the goals of `Gather::read_answer` (`gather`).
use Rattle.std.proofs.Common.{◌≡◌, Ok, sym, subst}
use Rattle.std.specs.Prelude.{Result}
use Rattle.meaning.specs.Said.{Answer}
use Rattle.answer_fields.specs.declared.fault.DecodeFault.{DecodeFault}
use Rattle.partial_codec.specs.Answer.{Spells}
use Rattle.gathering.specs.Gathering.{GatherSpec}
use Rattle.gathering.proofs.gather.Gather.read_answer.Goals as goal

ok_is : (a b : Answer) → ◌≡◌ {A = Result Answer DecodeFault} (Ok a) (Ok b) → a ≡ b
ok_is a b e = cc

pub returns-clause-only : goal.returns-clause-only
returns-clause-only c = λ other spells. ok_is other c.in_ok-decode.field-0 (c.in_ok-decode.ensures.complete other (subst (λ (g : GatherSpec). Spells g.job c.args.bytes.now other) (sym c.self.view_is) spells))
