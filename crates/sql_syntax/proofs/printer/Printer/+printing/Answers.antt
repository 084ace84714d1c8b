-- Proofs of the goals of `+printing` (`printing`).
use Rattle.std.proofs.Common.{rules, map, ◌∷◌}
use Rattle.sql_syntax.specs.declared.keyword.Keyword.TheVariants as keyword
use Rattle.sql_syntax.specs.declared.token.Sign.TheVariants as sign
use Rattle.sql_syntax.specs.Phrases.{word, mark}
use Rattle.sql_syntax.specs.CanonicalTokens.{free, printed, printed_arm, arms_tokens}
use Rattle.sql_syntax.specs.Printing.{written, with_tokens, behind_commas}
use Rattle.sql_syntax.proofs.Writing.{goes_on, arms_step, more_step, list_ends, reckon_step}
use Rattle.sql_syntax.proofs.printer.Printer.+printing.Goals as goal

pub put_arms-loop-arm-preserved : goal.put_arms-loop-arm-preserved
put_arms-loop-arm-preserved t c =
    goes_on (λ arms. arms_tokens (map printed_arm arms)) (λ w arm. with_tokens (with_tokens w (word keyword.When ∷ free (printed arm.condition))) (word keyword.Then ∷ free (printed arm.value)))
    (λ w arm arms. arms_step w arm (map printed_arm arms))
    c.args.arms.now c.loop-arm.arm-index c.arm-item.result _ _ _ _ c.loop-arm-test.true c.arm-item.is
    (search rules) c.loop-arm.invariant

pub put_list-loop-entry-preserved : goal.put_list-loop-entry-preserved
put_list-loop-entry-preserved t c =
    goes_on (λ es. behind_commas (map printed es)) (λ w e. with_tokens w (mark sign.Comma ∷ free (printed e)))
    (λ w e es. more_step w (printed e) (map printed es))
    c.in-Some.rest.now c.loop-entry.entry-index c.entry-item.result _ _ _ _ c.loop-entry-test.true c.entry-item.is
    (search rules) c.loop-entry.invariant

pub put_list-returns : goal.put_list-returns
put_list-returns t c =
    list_ends c.args.entries.now c.in-Some.first.now c.in-Some.rest.now c.loop-entry.entry-index (written c.args.self.now) (written c.put_at.new.self) (written c.loop-entry.self)
    (search rules) (search rules) (search rules) c.loop-entry.invariant
