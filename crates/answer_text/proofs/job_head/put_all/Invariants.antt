-- Loop invariants of `put_all` (`job_head`).
use Rattle.std.proofs.Common.{◌≡◌, ◌++◌, string_bytes, take}
use Rattle.answer_text.specs.Texts.{aggregate_text, listed}
use Rattle.answer_text.proofs.Lists.{before_next}
use Rattle.answer_text.proofs.job_head.put_all.Given as goal

abbrev pub invariant-loop-aggregate : goal.invariant-loop-aggregate
invariant-loop-aggregate l = record {
  text : string_bytes l.out ≡ string_bytes l.fn.out ++ listed l.first aggregate_text (take l.aggregate-index l.aggregates);
  between : l.between ≡ before_next l.first (take l.aggregate-index l.aggregates);
}
