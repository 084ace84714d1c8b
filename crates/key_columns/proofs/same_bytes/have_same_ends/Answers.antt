-- Proofs of the goals of `have_same_ends` (`same_bytes`).
use Rattle.std.proofs.Common.{ap, sym, ◌∙◌}
use Rattle.std.specs.Prelude.{ℕ, List, ◌-◌, length, drop}
use Rattle.key_columns.proofs.Ends.{same_ends}
use Rattle.key_columns.proofs.same_bytes.have_same_ends.Goals as goal

pub returns-clause-same : goal.returns-clause-same
returns-clause-same g c = λ same.
    let first = c.in-Some.ensures.cases in
    let other_first = c.in-Some-first_chunk.ensures.cases in
    let last = c.in-Some-last_chunk.ensures.cases in
    let other_last = c.in-Some-last_chunk-2.ensures.cases in
    same_ends g.row.N c.args.one.now c.args.other.now c.requires.long c.requires.short first.enough
    (sym first.same ∙ c.are_same_arrays.ensures.same c.if-not-are_same_arrays.false ∙ other_first.same)
    (sym last.1.same ∙ c.are_same_arrays-2.ensures.same same ∙ other_last.1.same)

pub returns-clause-apart : goal.returns-clause-apart
returns-clause-apart g c = λ same.
    let last = c.in-Some-last_chunk.ensures.cases in
    let other_last = c.in-Some-last_chunk-2.ensures.cases in
    c.are_same_arrays-2.ensures.apart (last.1.same ∙ ap (λ (xs : List ℕ). drop (length xs - g.row.N) xs) same ∙ sym other_last.1.same)
