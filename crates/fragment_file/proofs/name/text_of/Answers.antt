-- Proofs of the goals of `text_of` (`name`).
use Rattle.std.proofs.lemmas.Str.{IsUtf8-from_ascii}
use Rattle.meaning.proofs.NameForms.{is_name-ascii}
use Rattle.fragment_file.proofs.name.text_of.Goals as goal

pub returns-in_default : goal.returns-in_default
returns-in_default c = absurd (c.in_default.ensures.cases.0 (IsUtf8-from_ascii _ (is_name-ascii _ c.requires)))
