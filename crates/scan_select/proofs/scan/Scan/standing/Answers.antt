-- Proofs of the goals of `standing` (`scan`).
use Rattle.std.proofs.Common.{ap, refl, sym, ◌∙◌}
use Rattle.std.specs.Prelude.{option_map}
use Rattle.std.proofs.lemmas.Bool.{ne_eqb}
use Rattle.fragment_file.specs.Lent.{blocks_in}
use Rattle.scan_select.specs.Scanned.{ScanSpec}
use Rattle.scan_select.proofs.Rows.{stands_in}
use Rattle.scan_select.proofs.scan.Scan.standing.Goals as goal

pub returns-in-Some : goal.returns-in-Some
returns-in-Some g c =
    stands_in c.args.self.now _ c.self.inside.first c.self.inside.rows _ (sym c.group.ensures.value ∙ ap (option_map blocks_in) c.in-Some.is) (sym (ap (λ (s : ScanSpec _). s.at) c.self.view_is)) (ne_eqb _ _ c.if-self-eq0.false) refl
