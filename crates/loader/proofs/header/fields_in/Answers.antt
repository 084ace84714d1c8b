-- Proofs of the goals of `fields_in` (`header`).
use Rattle.std.proofs.Common.{Bor, ℕ, List, [], ◌∷◌, ◌++◌, ◌∙◌, sym, ap, arith}
use Rattle.std.proofs.lemmas.List.{map-append, take_all}
use Rattle.csv.specs.Records.{fields_of}
use Rattle.loader.proofs.Judging.{taken, none_there}
use Rattle.loader.proofs.header.fields_in.Goals as goal
use Rattle.loader.proofs.header.fields_in.Goals.{else-loop-i-test, then-loop-i-test+in_default}

pub loop-i-preserved : goal.loop-i-preserved
loop-i-preserved c =
    let fields = fields_of c.args.row.now in
    let field = c.in-Some.field in
    rw c.in_ok-push.ensures.items
    (map-append (λ (f : Bor (List ℕ)). f.now) c.loop-i.fields.items (field ∷ [])
    ∙ ap (λ xs. xs ++ field.now ∷ []) c.loop-i.invariant
    ∙ sym (taken fields c.loop-i.i field.now (sym c.in-Some.ensures)))

pub returns : goal.returns
returns c =
    let fields = fields_of c.args.row.now in
    elim c.loop-i-test.branch [
      | else-loop-i-test w ↦ c.loop-i.invariant ∙ take_all c.loop-i.i fields (omega (arith, w.loop-i-test.false, c.len-i-end.ensures))
      | then-loop-i-test+in_default w ↦ c.loop-i.invariant ∙ take_all c.loop-i.i fields (none_there fields c.loop-i.i (sym w.in_default.ensures))
    ]
