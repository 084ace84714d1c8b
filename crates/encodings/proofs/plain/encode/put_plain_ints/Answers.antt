-- Proofs of the goals of `put_plain_ints` (`plain::encode`).
use Rattle.std.proofs.Common.{arith, ap, ◌∙◌, ◌++◌, List, ℕ}
use Rattle.std.specs.List.{flat_map}
use Rattle.std.proofs.lemmas.List.{length-map}
use Rattle.meaning.specs.declared.value.Value.TheVariants.{Int}
use Rattle.blocks.specs.Numbers.{integer_bytes}
use Rattle.encodings.proofs.EncodedBodies.{puts_plain_ints}
use Rattle.encodings.proofs.plain.encode.put_plain_ints.Goals as goal

pub returns : goal.returns
returns c =
    let long = length-map c.args.ints.now (λ n. Int n) in
    puts_plain_ints _ _ c.args.ints.now c.requires.fit (omega arith)
    (c.in_ok-put_integers.ensures ∙ ap (λ (xs : List ℕ). xs ++ flat_map integer_bytes c.args.ints.now) c.make_room.ensures.same)
