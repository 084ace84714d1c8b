-- Proofs of the goals of `read_columns` (`reading`).
use Rattle.std.proofs.Common.{◌≡◌, ◌∙◌, Ok, ap, length, replicate, subst, sym, true, false}
use Rattle.init.specs.declared.findings.Findings.{Findings}
use Rattle.init.specs.Shown.{columns_of, found_in}
use Rattle.init.proofs.Showing.{all_replaced, fresh, shown_ok}
use Rattle.init.proofs.reading.read_columns.Goals as goal

pub returns-clause-shown : goal.returns-clause-shown
returns-clause-shown g c = λ rows left.
    let names = c.in_ok-names.names.items in
    let none : Findings = record { integers = true; nulls = false } in
    let (header, rest, are, named, now) = c.in_ok-names.ensures.named rows left in
    let counted : c.len.result ≡ length names = c.len.ensures ∙ c.in_ok-names.names.ok.0 in
    let made : c.deref_mut.result.now ≡ replicate (length names) none = c.deref_mut.ensures.value ∙ c.in_ok-findings.ensures.items_if_clones_equal (λ y e. e) ∙ ap (λ n. replicate n none) counted in
    let (long, empty) = fresh (length names) c.deref_mut.result.now made in
    let found = subst (λ n. c.take_records.new.findings ≡ found_in n rest) long (c.in_ok-take_records.ensures.taken rest now empty) in
    let whole = shown_ok rows header rest names c.take_records.new.findings are named found in
    let new = c.take_records.new.findings in
    let items = c.in_ok-findings.findings.items in
    let same = c.in_ok-take_records.ensures.length ∙ ap length c.deref_mut.ensures.value in
    let read = c.as_slice-2.ensures.value ∙ all_replaced c.in_ok-findings.findings.len new items c.in_ok-findings.findings.ok.0 same in
    whole ∙ ap Ok (sym (c.in_ok-columns_of.ensures ∙ (λ k. columns_of (c.as_slice.ensures.value k) (read k))))
