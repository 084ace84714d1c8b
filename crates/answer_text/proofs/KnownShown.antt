-- What is known of an aggregate's argument, by its kind.
use Rattle.std.proofs.Common.{◌≡◌, ℕ, List, codes, refl, subst, sym}
use Rattle.std.specs.Prelude.{Result, Ok, Err}
use Rattle.meaning.specs.Aggregate.{no_statistics}
use Rattle.meaning.specs.declared.answer.Statistics.{Statistics}
use Rattle.meaning.specs.declared.value.Value.{Value}
use Rattle.meaning.specs.declared.value.Value.TheVariants.{Null, Int, Text}
use Rattle.meaning.specs.declared.plan.AggregateKind.{AggregateKind}
use Rattle.meaning.specs.declared.plan.AggregateKind.TheVariants as kind
use Rattle.wire.specs.Reading.{◌>>=◌, Read, number_at}
use Rattle.answer_fields.specs.Fault.{from_wire}
use Rattle.answer_fields.specs.declared.fault.DecodeFault.{DecodeFault}
use Rattle.answer_fields.specs.LayoutReading.{set_at, state_at, unless_null, value_at}
use Rattle.answer_fields.specs.Spelling.{value_or_null}
use Rattle.answer_text.specs.declared.damage.Stop.{Stop}
use Rattle.answer_text.specs.Reading.{Shows, extreme_at}
use Rattle.answer_text.specs.Texts.{entries_text, extreme_text, known_text}
use Rattle.answer_text.proofs.Showing.{shows_as}

abbrev least_of : ℕ × Value → Statistics
least_of p = record no_statistics { count = p.0; least = unless_null p.1 }

abbrev greatest_of : ℕ × Value → Statistics
greatest_of p = record no_statistics { count = p.0; greatest = unless_null p.1 }

abbrev set_of : List Value → Statistics
set_of entries = record no_statistics { entries = entries }

null_or : (v : Value) → value_or_null (unless_null v) ≡ v
null_or Null = refl
null_or (Int z) = refl
null_or (Text t) = refl

abbrev Extreme : Type 0
Extreme = ℕ × Value

abbrev and_value : ℕ → Value × List ℕ → Read DecodeFault Extreme
and_value n v = Ok ((n, v.0), v.1)

module _ (make : Extreme → Statistics) where
  abbrev made_of : Extreme × List ℕ → Read DecodeFault Statistics
  made_of p = Ok (make p.0, p.1)

  abbrev at_once : ℕ → Value × List ℕ → Read DecodeFault Statistics
  at_once n v = Ok (make (n, v.0), v.1)

  behind : (n : ℕ) (value : Read DecodeFault Value) → (value >>= at_once n) ≡ ((value >>= and_value n) >>= made_of)
  behind n (Ok v) = refl
  behind n (Err e) = refl

  made : (count : Read DecodeFault ℕ) → (count >>= λ n. value_at n.1 >>= at_once n.0) ≡ ((count >>= λ n. value_at n.1 >>= and_value n.0) >>= made_of)
  made (Ok n) = behind n.0 (value_at n.1)
  made (Err e) = refl

module _ (bytes : List ℕ) (r : Result (Unit {0}) Stop) (old new rest : List ℕ) where
  pub least_shown : (word : List ℕ) → word ≡ codes ", least " → Shows (extreme_text word) r old new rest (extreme_at bytes) → Shows (known_text kind.Min) r old new rest (state_at kind.Min bytes)
  unfolding state_at
  least_shown word is shown =
      rw (made least_of (from_wire (number_at 4 bytes)))
      (shows_as (extreme_at bytes) least_of (extreme_text word) (known_text kind.Min) (λ p. rw (null_or p.1, is) refl) r old new rest shown)

  pub greatest_shown : (word : List ℕ) → word ≡ codes ", greatest " → Shows (extreme_text word) r old new rest (extreme_at bytes) → Shows (known_text kind.Max) r old new rest (state_at kind.Max bytes)
  unfolding state_at
  greatest_shown word is shown =
      rw (made greatest_of (from_wire (number_at 4 bytes)))
      (shows_as (extreme_at bytes) greatest_of (extreme_text word) (known_text kind.Max) (λ p. rw (null_or p.1, is) refl) r old new rest shown)

  pub set_shown : Shows entries_text r old new rest (set_at bytes) → Shows (known_text kind.CountDistinct) r old new rest (state_at kind.CountDistinct bytes)
  unfolding state_at
  set_shown shown = shows_as (set_at bytes) set_of entries_text (known_text kind.CountDistinct) (λ entries. refl) r old new rest shown

  pub sum_of_set_shown : Shows entries_text r old new rest (set_at bytes) → Shows (known_text kind.SumDistinct) r old new rest (state_at kind.SumDistinct bytes)
  unfolding state_at
  sum_of_set_shown shown = shows_as (set_at bytes) set_of entries_text (known_text kind.SumDistinct) (λ entries. refl) r old new rest shown

  pub rows_shown : Shows (known_text kind.Count) r old new rest (state_at kind.Count bytes) → Shows (known_text kind.CountRows) r old new rest (state_at kind.CountRows bytes)
  unfolding state_at
  rows_shown shown = shown

  pub average_shown : Shows (known_text kind.Sum) r old new rest (state_at kind.Sum bytes) → Shows (known_text kind.Avg) r old new rest (state_at kind.Avg bytes)
  unfolding state_at
  average_shown shown = shown

  pub of_kind : (k one : AggregateKind) → k ≡ one → Shows (known_text one) r old new rest (state_at one bytes) → Shows (known_text k) r old new rest (state_at k bytes)
  of_kind k one is shown = subst (λ x. Shows (known_text x) r old new rest (state_at x bytes)) (sym is) shown
