-- Proofs of the goals of `fragments_combine` (`laws`).
use Rattle.meaning_laws.proofs.Fragments.{fault_of_whole, kept_of_whole}
use Rattle.meaning_laws.proofs.laws.fragments_combine.Goals as goal

pub returns : goal.returns
returns c = λ plan dims cut rows whole.
    (fault_of_whole plan dims cut rows whole, kept_of_whole plan dims cut rows whole)
