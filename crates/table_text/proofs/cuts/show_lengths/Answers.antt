-- Proofs of the goals of `show_lengths` (`cuts`).
use Rattle.std.proofs.Common.{◌≡◌, ◌+◌, ◌-◌, ◌++◌, ◌∷◌, ◌∙◌, [], ap, append-nil, append_assoc, arith, refl, string_bytes, sym}
use Rattle.std.proofs.lemmas.Result.{err_from_is_err_and}
use Rattle.wire.specs.Reading.{repeat_at}
use Rattle.wire.proofs.Loops.{begins, fails, finishes, goes_on}
use Rattle.answer_text.specs.Reading.{capped, fault_in}
use Rattle.answer_text.proofs.Took.{still}
use Rattle.table_text.specs.CutText.{each_text, length_at}
use Rattle.table_text.proofs.Alikes.{summed}
use Rattle.table_text.proofs.cuts.show_lengths.Goals as goal

pub loop-fragment-init : goal.loop-fragment-init
loop-fragment-init c =
    let all : c.args.count - 0 ≡ c.args.count = omega arith in
    ([], rw all (begins length_at c.args.count c.args.cursor.now.rest.now (repeat_at length_at c.args.count c.args.cursor.now.rest.now) refl), λ behind. refl, refl, (refl, refl))

pub loop-fragment-preserved : goal.loop-fragment-preserved
loop-fragment-preserved c =
    let (cut, read, text, sum, part) = c.loop-fragment.invariant in
    let rows = c.in_ok-rows.rows in (
      cut ++ rows ∷ [],
      goes_on length_at cut c.args.count c.loop-fragment.fragment c.loop-fragment.cursor.rest.now rows c.take_length.new.cursor.rest.now (repeat_at length_at c.args.count c.args.cursor.now.rest.now) c.loop-fragment-test.true c.in_ok-rows.ensures.read read,
      λ behind. c.in_ok-with_length.ensures behind ∙ text (rows ∷ behind) ∙ ap (λ l. string_bytes c.args.out.now ++ each_text l) (sym (append_assoc cut (rows ∷ []) behind)),
      summed cut rows c.loop-fragment.all c.saturating_add-all.result sum (c.saturating_add-all.ensures ∙ ap (λ n. capped (c.loop-fragment.all + n)) c.from.ensures),
      still c.args.cursor.now c.loop-fragment.cursor c.take_length.new.cursor part c.in_ok-rows.ensures.part,
    )

pub returns-clause-shown : goal.returns-clause-shown
returns-clause-shown c =
    let (cut, read, text, sum, part) = c.loop-fragment.invariant in (
      cut,
      finishes length_at cut c.args.count c.loop-fragment.fragment c.loop-fragment.cursor.rest.now (repeat_at length_at c.args.count c.args.cursor.now.rest.now) c.loop-fragment-test.false read,
      c.in_ok-put_last.ensures c.loop-fragment.fragment ∙ text [] ∙ ap (λ l. string_bytes c.args.out.now ++ each_text l) (append-nil cut),
      sum,
    )

pub returns-in_err-rows-clause-shown : goal.returns-in_err-rows-clause-shown
returns-in_err-rows-clause-shown c =
    let (cut, read, text, sum, part) = c.loop-fragment.invariant in
    let p = err_from_is_err_and c.from_residual.result c.from_residual.ensures.1 in
    rw (p.1, p.2) (λ not_memory. fails length_at cut c.args.count c.loop-fragment.fragment c.loop-fragment.cursor.rest.now (fault_in c.in_err-rows.field-0.0) (repeat_at length_at c.args.count c.args.cursor.now.rest.now) c.loop-fragment-test.true c.in_err-rows.ensures.read read)
