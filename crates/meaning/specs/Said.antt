-- What is said of fragments: the declared forms, over lists of groups.
use Rattle.std.specs.Prelude.{List}
use Rattle.meaning.specs.declared.answer.Group.{Group}
use Rattle.meaning.specs.declared.answer.Body as said
use Rattle.meaning.specs.declared.answer.Answer as answers
use Rattle.meaning.specs.declared.answer.Cell as cells

-- groups, or the fault of the least row
abbrev pub Body : Type 0
Body = said.Body (List Group)

abbrev pub Answer : Type 0
Answer = answers.Answer (List Group)

abbrev pub Cell : Type 0
Cell = cells.Cell (List Group)
