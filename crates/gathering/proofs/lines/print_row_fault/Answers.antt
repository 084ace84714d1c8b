-- Proofs of the goals of `print_row_fault` (`lines`).
use Rattle.std.proofs.Common.{◌≡◌, ℕ, List, [], ◌∷◌, ◌++◌, codes, decimal, sym, ◌∙◌, ap, append_assoc, subst}
use Rattle.std.specs.Io.KnownBytes.{Appends}
use Rattle.meaning.specs.Print.{fault_text}
use Rattle.gathering.proofs.lines.print_row_fault.Goals as goal

regrouped : (a b c d : List ℕ) → a ++ (b ++ (c ++ d)) ≡ ((a ++ b) ++ c) ++ d
regrouped a b c d = sym (append_assoc (a ++ b) c d ∙ append_assoc a b (c ++ d))

pub returns : goal.returns
returns g c = subst (Appends _ _) (ap (λ words. words ++ (codes " at row " ++ (decimal c.args.fault.now.row ++ 10 ∷ []))) c.fault_words-words.ensures ∙ regrouped (fault_text c.args.fault.now.code) (codes " at row ") (decimal c.args.fault.now.row) (10 ∷ [])) c.in_ok-writeln.ensures.bytes
