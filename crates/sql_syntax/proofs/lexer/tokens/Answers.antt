-- Proofs of the goals of `tokens` (`lexer`).
use Rattle.std.proofs.Common.{◌<◌, length, refl, arith, false-eqb}
use Rattle.sql_syntax.proofs.AllTokens.{begins, continues}
use Rattle.sql_syntax.proofs.lexer.tokens.Goals as goal

pub loop-rest-init : goal.loop-rest-init
loop-rest-init c =
    let r = c.skip_blanks-rest in
    record {
      utf8 = r.utf8;
      shorter = r.ensures.shorter;
      so_far = begins c.args.text.now c.new-lexemes.result.items r.result.now c.new-lexemes.ensures.items r.ensures.value r.ensures.shorter;
    }

pub loop-rest-preserved : goal.loop-rest-preserved
loop-rest-preserved c =
    let r = c.skip_blanks-rest-in-loop-rest in
    let some : 0 < length c.loop-rest.rest.now = omega (arith, false-eqb _ 0 c.loop-rest-test.ensures) in
    record {
      utf8 = r.utf8;
      shorter = omega arith;
      so_far = continues c.args.text.now c.loop-rest.lexemes.items c.loop-rest.rest.now c.push.new.self.items _ c.first_token.result.1.now r.result.now c.loop-rest.invariant.so_far some c.in_ok-push.ensures.items refl c.first_token.ensures.value c.first_token.ensures.shorter r.ensures.value r.ensures.shorter;
    }
