-- Proofs of the goals of `take_block` (`groups`).
use Rattle.std.proofs.Common.{List, ℕ, ◌++◌, sym, ◌∙◌, subst}
use Rattle.fragment_file.specs.FragmentReading.{kind_of}
use Rattle.fragment_file.specs.View.{IsEnd}
use Rattle.fragment_file.proofs.Locations.{block_behind, block_payload}
use Rattle.fragment_file.proofs.groups.take_block.Goals as goal

pub returns-clause-behind : goal.returns-clause-behind
returns-clause-behind c = λ bytes e.
    let payload = block_payload (kind_of c.in_ok-code.code) c.args.of.now c.args.rows c.in_ok-payload.payload.now c.in-Some.block (sym c.block_of.ensures ∙ c.in-Some.is) in
    subst (λ (p : List ℕ). IsEnd bytes (p ++ c.in_ok-payload.rest.now)) (sym payload)
    (block_behind bytes c.args.rest.now c.in_ok-code.code c.in_ok-code.rest.now c.in_ok-length.length c.in_ok-length.rest.now c.in_ok-payload.payload.now c.in_ok-payload.rest.now
    c.in_ok-code.ensures c.in_ok-length.ensures c.in_ok-payload.ensures e)
