-- Proofs of the goals of `write_row` (`printing`).
use Rattle.std.proofs.Common.{◌≢◌, ℕ, List, [], ◌∷◌, get_or, map, refl, sym, subst}
use Rattle.meaning.specs.Order.{Row}
use Rattle.meaning.specs.Print.{value_text}
use Rattle.last_step.proofs.printing.write_row.Goals as goal

texts_of : (row : Row) → row ≢ [] → map value_text row ≢ []
texts_of [] some = absurd (some refl)
texts_of (v ∷ vs) some = λ e. cc

pub write_record-requires-clause-shown : goal.write_record-requires-clause-shown
write_record-requires-clause-shown g c =
    subst (λ (fields : List (List ℕ)). fields ≢ []) (sym c.in_ok-fill.ensures) (texts_of (get_or (g.R.PrintableRows.rows c.args.rows.now) c.args.at []) c.requires.shown)
