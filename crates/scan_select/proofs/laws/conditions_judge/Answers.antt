-- Proofs of the goals of `conditions_judge` (`laws`).
use Rattle.scan_select.proofs.LawProofs.{conditions_judge as proved}
use Rattle.scan_select.proofs.laws.conditions_judge.Goals as goal

pub returns : goal.returns
returns c = proved
