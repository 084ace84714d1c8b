-- An accumulator of any kind.
use Rattle.meaning.specs.declared.plan.AggregateKind.{AggregateKind}
use Rattle.meaning.specs.declared.plan.AggregateKind.TheVariants as kind
use Rattle.meaning.specs.declared.answer.Statistics.{Statistics}
use Rattle.accumulators.specs.declared.any_acc.AnyAcc.{AnyAcc}
use Rattle.accumulators.specs.declared.any_acc.AnyAcc.TheVariants as acc

abbrev pub kind_of : AnyAcc → AggregateKind
kind_of (acc.CountRows a) = kind.CountRows
kind_of (acc.Count a) = kind.Count
kind_of (acc.Sum a) = kind.Sum
kind_of (acc.Min a) = kind.Min
kind_of (acc.Max a) = kind.Max
kind_of (acc.Avg a) = kind.Avg
kind_of (acc.CountDistinct a) = kind.CountDistinct
kind_of (acc.SumDistinct a) = kind.SumDistinct

abbrev pub held_by : AnyAcc → Statistics
held_by (acc.CountRows a) = a
held_by (acc.Count a) = a
held_by (acc.Sum a) = a
held_by (acc.Min a) = a
held_by (acc.Max a) = a
held_by (acc.Avg a) = a
held_by (acc.CountDistinct a) = a
held_by (acc.SumDistinct a) = a
