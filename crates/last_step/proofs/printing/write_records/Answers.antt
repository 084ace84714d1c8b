-- Proofs of the goals of `write_records` (`printing`).
use Rattle.std.proofs.Common.{ℕ, ◌+◌, ◌<◌, List, [], ◌++◌, length, get_or, map, take, ap, sym, ◌∙◌, subst}
use Rattle.std.specs.Prelude.{Option, flat_map}
use Rattle.std.proofs.KnownBytes.{Appends-trans}
use Rattle.std.proofs.lemmas.List.{flat_map_more, take_more}
use Rattle.std.specs.Io.KnownBytes.{Appends}
use Rattle.meaning.specs.Print.{record_text, value_text}
use Rattle.last_step.proofs.printing.write_records.Goals as goal

-- the texts of the first elements, and that of one more
one_more : {X : Type 0} (f : X → List ℕ) (a b c : Option (List ℕ)) (head : List ℕ) (xs : List X) (i : ℕ) (d : X) → i < length xs
    → Appends a b (head ++ flat_map f (take i xs)) → Appends b c (f (get_or xs i d)) → Appends a c (head ++ flat_map f (take (i + 1) xs))
one_more f a b c head xs i d below front step =
    subst (Appends a c) (flat_map_more f head (take i xs) (get_or xs i d) ∙ ap (λ l. head ++ flat_map f l) (sym (take_more xs i d below)))
    (Appends-trans a b c _ _ front step)

pub loop-k-preserved : goal.loop-k-preserved
loop-k-preserved g c =
    let step = c.in_ok-write_row.ensures in
    let rows = g.R.PrintableRows.rows c.args.rows.now in
    record {
      between = step.behind;
      text = one_more (λ row. record_text (map value_text row)) _ _ _ _ rows c.loop-k.k [] (subst (λ n. c.loop-k.k < n) c.len-k-end.ensures c.loop-k-test.true)
          c.loop-k.invariant.text step.text;
    }
