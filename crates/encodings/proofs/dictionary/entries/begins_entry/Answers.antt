-- Proofs of the goals of `begins_entry` (`dictionary::entries`).
use Rattle.std.proofs.Common.{◌≡◌, ℕ, ◌+◌, ◌-◌, ◌<◌, true, false, map, get_or, sym, subst, ◌∙◌, is_lt, arith}
use Rattle.std.proofs.lemmas.Bool.{not-true, not-false}
use Rattle.std.proofs.lemmas.List.{get_or-map, length-map}
use Rattle.meaning.specs.declared.value.Value.TheVariants.{Null}
use Rattle.meaning.specs.Order.{same_value, value_cmp}
use Rattle.meaning.proofs.Same.{same_is}
use Rattle.encodings.proofs.NumberEntries.{less_next}
use Rattle.encodings.proofs.dictionary.entries.begins_entry.Goals as goal

pub returns-else-index-eq0-clause-stays : goal.returns-else-index-eq0-clause-stays
returns-else-index-eq0-clause-stays g c = λ e.
    let xs = c.args.sorted.now in
    let index = c.args.index in
    let before = c.index-sorted-index.result in
    let some : 0 < index = omega arith in
    let within = c.requires.within in
    let same : g.K.PartialEq.eq (get_or xs (index - 1) before).0 (get_or xs index c.index-sorted-index-else-index-eq0.result).0 ≡ true = not-false _ (sym c.ne.ensures ∙ e) in (
      some,
      get_or-map (λ p. g.K.Cell.value p.0) xs (index - 1) before Null (omega arith)
          ∙ (same_is _ _ (sym (g.met.K.Cell.same _ _) ∙ same)
          ∙ sym (get_or-map (λ p. g.K.Cell.value p.0) xs index c.index-sorted-index-else-index-eq0.result Null within)),
    )

pub returns-else-index-eq0-clause-begins : goal.returns-else-index-eq0-clause-begins
returns-else-index-eq0-clause-begins g c = λ e some.
    let cell = λ (p : g.row.K.Denot × ℕ). g.K.Cell.value p.0 in
    let xs = c.args.sorted.now in
    let index = c.args.index in
    let before = c.index-sorted-index.result in
    let here = c.index-sorted-index-else-index-eq0.result in
    let within = c.requires.within in
    let long = length-map xs cell in
    let back : index - 1 + 1 ≡ index = omega arith in
    let other : g.K.PartialEq.eq (get_or xs (index - 1) before).0 (get_or xs index here).0 ≡ false = not-true _ (sym c.ne.ensures ∙ e) in
    let apart : same_value (get_or (map cell xs) (index - 1) Null) (get_or (map cell xs) index Null) ≡ false =
    rw (get_or-map cell xs (index - 1) before Null (omega arith), get_or-map cell xs index here Null within) (sym (g.met.K.Cell.same _ _) ∙ other) in
    less_next (get_or (map cell xs) (index - 1) Null) (get_or (map cell xs) index Null) (subst (λ k. is_lt (value_cmp (get_or (map cell xs) k Null) (get_or (map cell xs) (index - 1) Null)) ≡ false) back (c.requires.sorted (index - 1) (omega arith))) apart
