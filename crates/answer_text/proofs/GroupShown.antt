-- What is shown of a group.
use Rattle.std.proofs.Common.{◌≡◌, ◌++◌, ◌∙◌, ℕ, List, ap, append_assoc, codes, decimal, length, Ok, Err, refl, rules, sym}
use Rattle.meaning.specs.declared.answer.Group.{Group}
use Rattle.meaning.specs.declared.answer.Statistics.{Statistics}
use Rattle.meaning.specs.declared.value.Value.{Value}
use Rattle.wire.specs.Reading.{◌>>=◌, number_at, repeat_at}
use Rattle.answer_fields.specs.Fault.{from_wire}
use Rattle.answer_fields.specs.LayoutReading.{group_at, states_at, value_at}
use Rattle.answer_fields.specs.Shape.{Shape}
use Rattle.answer_fields.specs.declared.fault.DecodeFault.{DecodeFault}
use Rattle.answer_text.specs.Texts.{group_text, key_text, states_text}

grouped : (old key rows states : List ℕ) → (((old ++ key) ++ (codes ": " ++ rows ++ codes " rows")) ++ states) ++ codes "\n" ≡ old ++ (key ++ codes ": " ++ rows ++ codes " rows" ++ states ++ codes "\n")
grouped old key rows states = search (rules, append_assoc)

module _ (shape : Shape) (n : ℕ) (is : n ≡ length shape.keys) (bytes : List ℕ) where
  pub group_unkeyed : (e : DecodeFault) → repeat_at value_at n bytes ≡ Err e → group_at shape bytes ≡ Err e
  unfolding group_at
  group_unkeyed e key = rw (← is, key) refl

  module _ (key : List Value) (behind_key : List ℕ) (key_read : repeat_at value_at n bytes ≡ Ok (key, behind_key)) where
    pub group_unnumbered : (e : DecodeFault) → from_wire (number_at 4 behind_key) ≡ Err e → group_at shape bytes ≡ Err e
    unfolding group_at
    group_unnumbered e rows = rw (← is, key_read, rows) refl

    module _ (rows : ℕ) (behind_rows : List ℕ) (rows_read : from_wire (number_at 4 behind_key) ≡ Ok (rows, behind_rows)) where
      pub group_unknown : (e : DecodeFault) → states_at shape.aggregates behind_rows ≡ Err e → group_at shape bytes ≡ Err e
      unfolding group_at
      group_unknown e states = rw (← is, key_read, rows_read, states) refl

      pub group_shown : (states : List Statistics) (rest : List ℕ) → states_at shape.aggregates behind_rows ≡ Ok (states, rest) → (old one two three new : List ℕ) → one ≡ old ++ key_text key → two ≡ one ++ (codes ": " ++ decimal rows ++ codes " rows")
          → three ≡ two ++ states_text shape.aggregates states → new ≡ three ++ codes "\n" → (g : Group) × (group_at shape bytes ≡ Ok (g, rest)) × (new ≡ old ++ group_text shape g)
      unfolding group_at group_text
      group_shown states rest states_read old one two three new first second third last =
          let g : Group = record { key = key; rows = rows; states = states } in
          let middle = codes ": " ++ decimal rows ++ codes " rows" in (
            g,
            rw (← is, key_read, rows_read, states_read) refl,
            last ∙ ap (λ t. t ++ codes "\n") (third ∙ ap (λ t. t ++ states_text shape.aggregates states) (second ∙ ap (λ t. t ++ middle) first))
                ∙ grouped old (key_text key) (decimal rows) (states_text shape.aggregates states),
          )
