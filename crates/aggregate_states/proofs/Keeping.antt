-- What a kind keeps is kept whole, alone and merged.
use Rattle.std.specs.Prelude.{◌≡◌}
use Rattle.std.proofs.Common.{refl, sym, ap, ◌∙◌}
use Rattle.meaning.specs.declared.plan.AggregateKind.{AggregateKind}
use Rattle.meaning.specs.declared.plan.AggregateKind.TheVariants.{CountRows, Count, Sum, Min, Max, Avg, CountDistinct, SumDistinct}
use Rattle.meaning.specs.declared.answer.Statistics.{Statistics}
use Rattle.meaning.specs.Aggregate.{no_statistics, kept_by, merge}
use Rattle.meaning.proofs.Merge.{kept_by-merge}

pub kept_twice : (kind : AggregateKind) (s : Statistics) → kept_by kind (kept_by kind s) ≡ kept_by kind s
kept_twice CountRows s = refl
kept_twice Count s = refl
kept_twice Sum s = refl
kept_twice Avg s = refl
kept_twice Min s = refl
kept_twice Max s = refl
kept_twice CountDistinct s = refl
kept_twice SumDistinct s = refl

none_kept : (kind : AggregateKind) → kept_by kind no_statistics ≡ no_statistics
none_kept CountRows = refl
none_kept Count = refl
none_kept Sum = refl
none_kept Avg = refl
none_kept Min = refl
none_kept Max = refl
none_kept CountDistinct = refl
none_kept SumDistinct = refl

pub keeps_none : (kind : AggregateKind) (s : Statistics) → s ≡ no_statistics → kept_by kind s ≡ s
keeps_none kind s is = ap (kept_by kind) is ∙ none_kept kind ∙ sym is

pub keeps_merged : (kind : AggregateKind) (a b s : Statistics) → kept_by kind a ≡ a → kept_by kind b ≡ b → s ≡ merge a b → kept_by kind s ≡ s
keeps_merged kind a b s kept_a kept_b is =
    ap (kept_by kind) is ∙ kept_by-merge kind a b ∙ (λ i. merge (kept_a i) (kept_b i)) ∙ sym is
