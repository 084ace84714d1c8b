-- Proofs of the goals of `put_plain_texts` (`plain::encode`).
use Rattle.std.proofs.Common.{arith, take, drop, ◌-◌, ap, ◌∙◌, ◌++◌, List, ℕ}
use Rattle.encodings.proofs.EncodedBodies.{puts_plain_texts, laid_texts}
use Rattle.encodings.proofs.EncodedRuns.{rows_of}
use Rattle.encodings.proofs.plain.encode.put_plain_texts.Goals as goal

pub returns : goal.returns
returns c =
    let long = rows_of c.args.texts.now c.args.from c.args.to c.requires.within in
    puts_plain_texts _ _ (take (c.args.to - c.args.from) (drop c.args.from c.args.texts.now)) c.requires.fit (omega arith)
    (c.in_ok-put_texts.ensures ∙ ap (λ (xs : List ℕ). xs ++ laid_texts (take (c.args.to - c.args.from) (drop c.args.from c.args.texts.now))) c.make_room.ensures.same)
