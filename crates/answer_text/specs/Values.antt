-- A value whose text is lent, as a value.
use Rattle.meaning.specs.declared.value.Value.{Value}
use Rattle.meaning.specs.declared.value.Value.TheVariants.{Null, Int, Text}
use Rattle.answer_text.specs.declared.values.LentValue.{LentValue}
use Rattle.answer_text.specs.declared.values.LentValue.TheVariants as lent

abbrev pub value_of : LentValue → Value
value_of lent.Null = Null
value_of (lent.Int z) = Int z
value_of (lent.Text t) = Text t.now
