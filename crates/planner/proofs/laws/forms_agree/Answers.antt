-- Proofs of the goals of `forms_agree` (`laws`).
use Rattle.planner.proofs.FormsAgree.{forms_agree}
use Rattle.planner.proofs.laws.forms_agree.Goals as goal

pub returns : goal.returns
returns c = forms_agree
